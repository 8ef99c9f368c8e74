-- What follows from the definitions of specs/Word.antt, for proofs alone: no contract cites it.
use mathlib.Core.Path.{◌≡◌, refl, sym, ap, ◌∙◌}
use mathlib.Core.List.{List, [], ◌∷◌}
use Prim.Native.Nat.{ℕ, zero, suc, ◌+◌, ◌*◌, ◌/◌, ◌%◌, ◌^◌, ◌≤◌, ◌<◌}
use native.Mathlib.Nat.{add-zero, add-suc, suc-mul, zero-mul, pow-suc, mod-lt, zero-lt-suc}
use native.Mathlib.Omega.{arith}
use lib.Arith.{lt-one}
use lib.Pow.{pow_pos, split}
use lib.Bits.{bit_xor, xor_comm, xor_shifted, xor_zero_r}
use lib.ListN.{length, take, drop, length-drop, take-append-drop}
use lib.Seq.{drop-drop, get_or-drop, length-take-le}
use Rattle.byte_numbers.specs.Number.{Bytes, number, bytes_of}
use Rattle.byte_numbers.proofs.NumberLaws.{bytes_of-number}
use Rattle.byte_numbers.specs.Place.{number_at}
use Rattle.crc16.specs.Crc.{times, bit_step, eight_bits, byte_step, crc_from}
use Rattle.crc16.proofs.CrcLaws.{crc_from-append}
use Rattle.crc16.proofs.Linear.{Linear, linear-times, linear-bit_step, xor-left-comm, steps-parts}
use Rattle.crc16.specs.Word.{register}

-- ---- laws

-- the register that a word stands for can be held to computed tests too
pub linear-register : Linear register
unfolding register
linear-register = linear-times 64 linear-bit_step

-- n times, and then m times
pub times-add : (m n : ℕ) (f : ℕ → ℕ) (r : ℕ) → times (m + n) f r ≡ times m f (times n f r)
unfolding times
times-add m zero f r = ap (λ (k : ℕ). times k f r) (add-zero m)
times-add m (suc n) f r = ap (λ (k : ℕ). times k f r) (add-suc m n) ∙ times-add m n f (f r)

-- what does the same once does the same n times
pub times-same : (n : ℕ) (f g : ℕ → ℕ) → ((x : ℕ) → f x ≡ g x) → (r : ℕ) → times n f r ≡ times n g r
unfolding times
times-same zero f g same r = refl
times-same (suc n) f g same r = ap (times n f) (same r) ∙ times-same n f g same (g r)

-- k bytes at once: their number is xored into the register, and eight bits for each are shifted out
pub crc_from-bytes_of : (k r n : ℕ) → n < 256 ^ k → crc_from r (bytes_of k n) ≡ times (k * 8) bit_step (bit_xor r n)
unfolding crc_from bytes_of times byte_step eight_bits
crc_from-bytes_of zero r n h =
    sym (ap (λ (k : ℕ). times k bit_step (bit_xor r n)) (zero-mul 8) ∙ ap (bit_xor r) (lt-one h) ∙ xor_zero_r r)
crc_from-bytes_of (suc k) r n h =
    let high = n / 256 in
    let low = n % 256 in
    let fits : high < 256 ^ k = omega (arith, rw pow-suc at h) in
    let parts : bit_xor (high * 256) low ≡ n = xor_shifted high 8 low (mod-lt n (pow_pos 8)) ∙ split n 8 in
    crc_from-bytes_of k (byte_step r low) high fits
    ∙ ap (times (k * 8) bit_step)
    (xor_comm (byte_step r low) high
    ∙ sym (steps-parts 8 high (bit_xor r low))
    ∙ ap (times 8 bit_step) (xor-left-comm (high * 256) r low ∙ ap (bit_xor r) parts))
    ∙ sym (times-add (k * 8) 8 bit_step (bit_xor r n))
    ∙ ap (λ (m : ℕ). times m bit_step (bit_xor r n)) (sym (suc-mul k 8))

bytes_drop : (i : ℕ) (s : List ℕ) → Bytes s → Bytes (drop i s)
bytes_drop i s hs j = rw get_or-drop (hs (i + j))

bytes_take : (k : ℕ) (s : List ℕ) → Bytes s → Bytes (take k s)
bytes_take zero s hs j = zero-lt-suc 255
bytes_take (suc k) [] hs j = zero-lt-suc 255
bytes_take (suc k) (b ∷ s) hs zero = hs 0
bytes_take (suc k) (b ∷ s) hs (suc j) = bytes_take k s (λ i. hs (suc i)) j

-- the number that stands at a place is passed, and the rest goes on from the register that its bytes leave
pub crc_from-number : (k i r : ℕ) (s : List ℕ) → Bytes s → i + k ≤ length s
    → crc_from (crc_from r (bytes_of k (number_at s i k))) (drop (i + k) s) ≡ crc_from r (drop i s)
unfolding number_at
crc_from-number k i r s hs h =
    let part = take k (drop i s) in
    let long : length part ≡ k = length-take-le k (drop i s) (rw length-drop (omega arith)) in
    let read : bytes_of k (number part) ≡ part =
    ap (λ (m : ℕ). bytes_of m (number part)) (sym long) ∙ bytes_of-number part (bytes_take k (drop i s) (bytes_drop i s hs)) in
    ap (λ (l : List ℕ). crc_from (crc_from r l) (drop (i + k) s)) read
    ∙ ap (crc_from (crc_from r part)) (sym (drop-drop k i s))
    ∙ sym (crc_from-append r part (drop k (drop i s)))
    ∙ ap (crc_from r) (take-append-drop k (drop i s))
