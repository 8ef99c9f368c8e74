-- What follows from the definitions of specs/Sealing.antt, for proofs alone: no contract cites it.
use mathlib.Core.Path.{◌≡◌, refl, sym, ap, ap₂, ◌∙◌}
use mathlib.Core.Bool.{true, ◌&&◌}
use mathlib.Core.List.{List, ◌++◌}
use Prim.Native.Nat.{ℕ, ◌+◌, ◌-◌, ◌≤◌}
use native.Mathlib.Nat.{zero-add, le_refl}
use native.Mathlib.Omega.{arith}
use lib.ListN.{length, take, drop, length-append, length-drop, take-append-drop}
use lib.Seq.{take_at, drop_at, take_all, get_or-drop}
use borrow.Author.Tests.{le-leb, eq-eqb, leb-true, eqb-true}
use Rattle.test_laws.proofs.Test.{both}
use Rattle.byte_numbers.specs.Number.{Bytes, number, bytes_of}
use Rattle.byte_numbers.proofs.NumberLaws.{length-bytes_of, number-bytes_of-fits, bytes_of-number}
use Rattle.byte_numbers.specs.Place.{number_at, written}
use Rattle.byte_numbers.proofs.PlaceLaws.{written-append, part-written}
use Rattle.crc16.specs.Crc.{crc_of}
use Rattle.crc16.proofs.CrcLaws.{crc_of-lt}
use Rattle.frame.specs.Layout.{crc_size}
use Rattle.frame.specs.Sealing.{framed, sealed, crc_fits}

-- ---- laws

-- a frame's length, wherever one is sent or read
pub length-framed : (body : List ℕ) → length (framed body) ≡ length body + crc_size
unfolding framed
length-framed body = length-append body (bytes_of 2 (crc_of body)) ∙ ap (λ (k : ℕ). length body + k) (length-bytes_of 2 (crc_of body))

-- what is written to the front and then sealed is a frame
pub sealed-written : (s body : List ℕ) → length body ≤ length s → sealed (written s 0 body) (length body) ≡ written s 0 (framed body)
unfolding sealed framed
sealed-written s body h =
    let front : take (length body) (written s 0 body) ≡ body = part-written s 0 body (rw zero-add h) in
    ap (λ (l : List ℕ). written (written s 0 body) (length body) (bytes_of 2 (crc_of l))) front
    ∙ sym (written-append s 0 body (bytes_of 2 (crc_of body)) ∙ ap (λ (k : ℕ). written (written s 0 body) k (bytes_of 2 (crc_of body))) (zero-add (length body)))

-- what the CRC of a frame is taken over
pub take-framed : (body : List ℕ) → take (length body) (framed body) ≡ body
unfolding framed
take-framed body = take_at body (bytes_of 2 (crc_of body)) (length body) refl

-- the CRC as it is read from a frame, for `crc_fits-framed`
pub number_at-framed : (body : List ℕ) → Bytes body → number_at (framed body) (length body) 2 ≡ crc_of body
unfolding framed number_at
number_at-framed body h =
    ap (λ (l : List ℕ). number (take 2 l)) (drop_at body (bytes_of 2 (crc_of body)) (length body) refl)
    ∙ ap number (take_all 2 (bytes_of 2 (crc_of body)) (rw length-bytes_of (le_refl 2)))
    ∙ number-bytes_of-fits 2 (crc_of body) (crc_of-lt body h)

-- the CRC of a frame fits
pub crc_fits-framed : (body : List ℕ) → Bytes body → crc_fits (framed body) ≡ true
unfolding crc_fits
crc_fits-framed body h =
    let l : length (framed body) ≡ length body + 2 = length-framed body in
    let n : length (framed body) - 2 ≡ length body = omega arith in
    let fits : number_at (framed body) (length (framed body) - 2) 2 ≡ crc_of (take (length (framed body) - 2) (framed body)) =
    rw (n, take-framed) (number_at-framed body h) in
    ap₂ ◌&&◌ (le-leb 2 (length (framed body)) (omega arith)) (eq-eqb _ _ fits)

-- ---- bytes whose last two are the CRC of all before them

-- the last two bytes are those of the number there
last-two : (s : List ℕ) → Bytes s → 2 ≤ length s → drop (length s - 2) s ≡ bytes_of 2 (number_at s (length s - 2) 2)
unfolding number_at
last-two s bytes l =
    let tail = drop (length s - 2) s in
    let e : length tail ≡ 2 = length-drop (length s - 2) s ∙ omega arith in
    let b : Bytes tail = λ i. rw get_or-drop (bytes (length s - 2 + i)) in
    sym (bytes_of-number tail b) ∙ ap₂ bytes_of e (sym (ap number (take_all 2 tail (omega arith))))

-- bytes whose CRC fits are the frame of those before it: from a test to the bytes
pub framed-of-fits : (s : List ℕ) → Bytes s → crc_fits s ≡ true → s ≡ framed (take (length s - 2) s)
unfolding crc_fits framed
framed-of-fits s bytes p =
    let a = both _ _ p in
    let l : 2 ≤ length s = leb-true 2 (length s) a.0 in
    sym (take-append-drop (length s - 2) s)
    ∙ ap (λ (x : List ℕ). take (length s - 2) s ++ x) (last-two s bytes l ∙ ap (bytes_of 2) (eqb-true _ _ a.1))
