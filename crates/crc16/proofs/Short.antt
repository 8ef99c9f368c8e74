-- The CRC of few bytes by one word: the register's start is xored into their number, which stands above as many zero bytes as a word has
-- left. Zeros leave a register of 0 as it is, so what 64 shifts leave of the word is the CRC. Document 01 asks for no particular way.
use mathlib.Core.Path.{◌≡◌, refl, sym, ap, ap₂, ◌∙◌}
use mathlib.Core.List.{List, [], ◌∷◌}
use Prim.Native.Nat.{ℕ, zero, suc, ◌+◌, ◌-◌, ◌*◌, ◌/◌, ◌%◌, ◌^◌, ◌≤◌, ◌<◌}
use native.Mathlib.Nat.{suc-mul, pow-zero, pow-suc, mod-lt, mod-eq_of_lt, mul-mod_left, lt_of_lt_of_le, add-zero, zero-add}
use native.Mathlib.Omega.{arith}
use lib.Dec.{lit<}
use lib.Pow.{pow_pos, pow_mono, pow-add, mod-pow-add, shl-shr, high, low}
use lib.Bits.{bit_xor, xor_comm, xor_mod}
use lib.ListN.{length, take, drop, drop_of_length-le}
use lib.Seq.{drop-drop, get_or-drop, take_all}
use Rattle.byte_numbers.specs.Number.{Bytes, number, bytes_of}
use Rattle.byte_numbers.proofs.NumberLaws.{bytes_of-low, number-split}
use Rattle.byte_numbers.specs.Place.{number_at}
use Rattle.crc16.specs.Crc.{start, times, bit_step, crc_from, crc_of}
use Rattle.crc16.proofs.Linear.{steps-shifted}
use Rattle.crc16.specs.Word.{register, up}
use Rattle.crc16.proofs.WordLaws.{times-add, crc_from-bytes_of, crc_from-number}

-- bounds of numbers in bytes, in bits
pub bytes_bits : (k : ℕ) → 256 ^ k ≡ 2 ^ (k * 8)
bytes_bits zero = refl
bytes_bits (suc k) = rw (pow-suc, suc-mul, pow-add) (ap (λ (n : ℕ). n * 256) (bytes_bits k))

-- what stands above j zeros comes down in the first j of i + j shifts
risen : (i j w : ℕ) → times (i + j) bit_step (w * 2 ^ j % 2 ^ (i + j)) ≡ times i bit_step (w % 2 ^ i)
risen i j w =
    let low : w * 2 ^ j % 2 ^ j ≡ 0 = mul-mod_left w (2 ^ j) in
    let parts : w * 2 ^ j % 2 ^ (i + j) ≡ w % 2 ^ i * 2 ^ j =
    mod-pow-add (w * 2 ^ j) i j
    ∙ ap₂ (λ (x y : ℕ). x % 2 ^ i * 2 ^ j + y) (shl-shr w j) low
    ∙ add-zero (w % 2 ^ i * 2 ^ j) in
    ap (times (i + j) bit_step) parts
    ∙ times-add i j bit_step (w % 2 ^ i * 2 ^ j)
    ∙ ap (times i bit_step) (steps-shifted j (w % 2 ^ i))

start-low : (k : ℕ) → 2 ≤ k → start % 2 ^ (k * 8) ≡ start
start-low k h = mod-eq_of_lt (lt_of_lt_of_le (lit< tt) (pow_mono {i = 16} {j = k * 8} (omega arith)))

-- the k lowest bytes of a word
pub raised-crc : (k w : ℕ) → 2 ≤ k → k ≤ 8 → register (up (64 - 8 * k) (bit_xor w start)) ≡ crc_of (bytes_of k w)
unfolding register crc_of
raised-crc k w h l =
    let j = 64 - 8 * k in
    let bits : k * 8 + j ≡ 64 = omega arith in
    let fits : w % 256 ^ k < 256 ^ k = mod-lt w (rw bytes_bits (pow_pos (k * 8))) in
    let low : bit_xor w start % 2 ^ (k * 8) ≡ bit_xor start (w % 256 ^ k) =
    xor_mod w start (k * 8)
    ∙ ap₂ (λ (x y : ℕ). bit_xor (w % x) y) (sym (bytes_bits k)) (start-low k h)
    ∙ xor_comm (w % 256 ^ k) start in
    ap (λ (n : ℕ). times n bit_step (bit_xor w start * 2 ^ j % 2 ^ n)) (sym bits)
    ∙ risen (k * 8) j (bit_xor w start)
    ∙ ap (times (k * 8) bit_step) low
    ∙ sym (crc_from-bytes_of k start (w % 256 ^ k) fits)
    ∙ ap (crc_from start) (bytes_of-low k w)

-- ---- four to eight bytes as a number, by their first four and their last four

number-below : (k : ℕ) (l : List ℕ) → Bytes l → number (take k l) < 256 ^ k
unfolding number
number-below zero l h = rw pow-zero (omega arith)
number-below (suc k) [] h = rw bytes_bits (pow_pos (suc k * 8))
number-below (suc k) (b ∷ l) h = rw pow-suc (omega (arith, number-below k l (λ i. h (suc i)), h 0))

-- those of the last four that are not among the first, k of them
above : (j k : ℕ) (s : List ℕ) → Bytes s → j + k ≡ 4 → number_at s k 4 / 2 ^ (j * 8) ≡ number (take k (drop 4 s))
unfolding number_at
above j k s h e =
    let l = drop k s in
    let low : number (take j l) < 2 ^ (j * 8) = rw bytes_bits at (number-below j l (λ i. rw get_or-drop (h (k + i)))) in
    let there : drop j l ≡ drop 4 s = drop-drop j k s ∙ (let f : k + j ≡ 4 = omega arith in ap (λ (n : ℕ). drop n s) f) in
    ap (λ (n : ℕ). number (take n l) / 2 ^ (j * 8)) (sym e)
    ∙ ap (λ (n : ℕ). n / 2 ^ (j * 8)) (number-split j k l)
    ∙ ap (λ (n : ℕ). (number (take k (drop j l)) * n + number (take j l)) / 2 ^ (j * 8)) (bytes_bits j)
    ∙ high (number (take k (drop j l))) (j * 8) low
    ∙ ap (λ (x : List ℕ). number (take k x)) there

-- `few` reads four to eight bytes as two numbers that overlap: they are one
pub few-number : (s : List ℕ) → Bytes s → 4 ≤ length s → length s ≤ 8
    → up 32 (number_at s (length s - 4) 4 / 2 ^ (64 - 8 * length s)) + number_at s 0 4 ≡ number s
unfolding number_at
few-number s h a b =
    let k = length s - 4 in
    let j = 8 - length s in
    let x = number (take k (drop 4 s)) in
    let bits : 64 - 8 * length s ≡ j * 8 = omega arith in
    let four : j + k ≡ 4 = omega arith in
    let small : 2 ^ (k * 8) ≤ 2 ^ 32 = pow_mono {i = k * 8} {j = 32} (omega arith) in
    let fits : x < 2 ^ 32 = lt_of_lt_of_le (rw bytes_bits at (number-below k (drop 4 s) (λ i. rw get_or-drop (h (4 + i))))) small in
    let whole : number s ≡ x * 256 ^ 4 + number (take 4 s) =
    ap number (sym (take_all (4 + k) s (omega arith))) ∙ number-split 4 k s in
    ap (λ (n : ℕ). up 32 (number_at s k 4 / 2 ^ n) + number (take 4 s)) bits
    ∙ ap (λ (n : ℕ). up 32 n + number (take 4 s)) (above j k s h four)
    ∙ ap (λ (n : ℕ). n + number (take 4 s)) (mod-eq_of_lt (omega (arith, fits)))
    ∙ sym whole

-- ---- nine to sixteen bytes: those before the last eight, read as the first of a word, and the last eight

front : (n : ℕ) (s : List ℕ) → Bytes s → n ≤ 8 → bytes_of n (number_at s 0 8) ≡ bytes_of n (number_at s 0 n)
unfolding number_at
front n s h b =
    let m = 8 - n in
    let eight : n + m ≡ 8 = omega arith in
    let fits : number (take n s) < 2 ^ (n * 8) = rw bytes_bits at (number-below n s h) in
    let rest : number (take 8 s) % 256 ^ n ≡ number (take n s) =
    ap (λ (k : ℕ). number (take k s) % 256 ^ n) (sym eight)
    ∙ ap (λ (x : ℕ). x % 256 ^ n) (number-split n m s)
    ∙ ap (λ (x : ℕ). (number (take m (drop n s)) * x + number (take n s)) % x) (bytes_bits n)
    ∙ low (number (take m (drop n s))) (n * 8) fits in
    sym (bytes_of-low n (number (take 8 s))) ∙ ap (bytes_of n) rest

-- `two_words` reads eight to sixteen bytes as two words that overlap: the CRC is that of all
pub two-words : (n : ℕ) (s : List ℕ) → Bytes s → n ≤ 8 → n + 8 ≡ length s
    → crc_from (crc_of (bytes_of n (number_at s 0 8))) (bytes_of 8 (number_at s n 8)) ≡ crc_of s
unfolding crc_of crc_from
two-words n s h b e =
    let r = crc_from start (bytes_of n (number_at s 0 8)) in
    let past : length s ≤ n + 8 = omega arith in
    let last : crc_from r (bytes_of 8 (number_at s n 8)) ≡ crc_from r (drop n s) =
    rw (drop_of_length-le s past) at (crc_from-number 8 n r s h (omega arith)) in
    last
    ∙ ap (λ (l : List ℕ). crc_from (crc_from start l) (drop n s)) (front n s h b)
    ∙ (rw zero-add at (crc_from-number n 0 start s h (omega arith)))
