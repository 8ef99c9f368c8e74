-- What follows from the definitions of specs/Layout.antt, for proofs alone: no contract cites it.
use mathlib.Core.Path.{◌≡◌, refl, ap}
use mathlib.Core.List.{List, [], ◌∷◌, ◌++◌}
use Prim.Native.Nat.{ℕ, suc, zero, ◌^◌, ◌≤◌, ◌<◌}
use native.Mathlib.Omega.{arith}
use lib.ListN.{length}
use Rattle.byte_numbers.specs.Number.{Bytes, bytes_of}
use Rattle.byte_numbers.specs.Place.{written}
use Rattle.byte_numbers.proofs.NumberLaws.{bytes-bytes_of, bytes_of-number, number-bytes_of-fits}
use Rattle.frame.specs.Sealing.{framed, sealed}
use Rattle.frame.proofs.SealingLaws.{sealed-written}
use Rattle.mercury.specs.Layout.{turned, address_bytes, address_in, head_of}

-- where the data of a frame begins
pub length-head : (address code : ℕ) → length (head_of address code) ≡ 5
unfolding head_of address_bytes
length-head address code = refl

-- address and command at the front, sealed
pub sealed-head : (s : List ℕ) (address code : ℕ) → 7 ≤ length s → sealed (written s 0 (head_of address code)) 5 ≡ written s 0 (framed (head_of address code))
unfolding head_of address_bytes
sealed-head s address code h = sealed-written s (head_of address code) (omega (arith, h))

-- ---- the address, there and back

-- the address, put high byte first, reads back
pub address-head : (address code : ℕ) (rest : List ℕ) → address < 256 ^ 4 → address_in (head_of address code ++ rest) ≡ address
unfolding head_of address_bytes address_in bytes_of
address-head address code rest h = number-bytes_of-fits 4 address h

-- a frame's head are bytes, for its CRC
pub bytes-head : (address code : ℕ) → code < 256 → Bytes (head_of address code)
unfolding head_of address_bytes bytes_of
bytes-head address code h zero = bytes-bytes_of 4 address 3
bytes-head address code h (suc zero) = bytes-bytes_of 4 address 2
bytes-head address code h (suc (suc zero)) = bytes-bytes_of 4 address 1
bytes-head address code h (suc (suc (suc zero))) = bytes-bytes_of 4 address 0
bytes-head address code h (suc (suc (suc (suc zero)))) = h
bytes-head address code h (suc (suc (suc (suc (suc i))))) = omega arith

-- the first five bytes of a frame are its address and its command
pub head-back : (a b c d e : ℕ) (rest : List ℕ) → Bytes (d ∷ c ∷ b ∷ a ∷ [])
    → head_of (address_in (a ∷ b ∷ c ∷ d ∷ e ∷ rest)) e ≡ a ∷ b ∷ c ∷ d ∷ e ∷ []
unfolding head_of address_bytes address_in
head-back a b c d e rest h = ap (λ (l : List ℕ). turned l ++ (e ∷ [])) (bytes_of-number (d ∷ c ∷ b ∷ a ∷ []) h)
