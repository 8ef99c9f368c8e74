-- The reader gets the meter's energies back bit for bit: what `energies_bytes` writes, `energies_of` reads, where the four are finite.
use Rattle.std.specs.Prelude.{Some}
use mathlib.Core.Path.{◌≡◌, refl, ◌∙◌}
use mathlib.Core.Bool.{true}
use mathlib.Core.List.{List, ◌++◌, append_assoc}
use Prim.Native.Nat.{ℕ, ◌%◌, ◌<◌}
use native.Mathlib.Omega.{arith}
use native.Mathlib.Nat.{mod-eq_of_lt}
use borrow.Author.Tests.{lt-ltb}
use lib.ListN.{length}
use Rattle.byte_numbers.specs.Number.{bytes_of}
use Rattle.byte_numbers.specs.Place.{number_at}
use Rattle.byte_numbers.proofs.PlaceLaws.{number_at-front, number_at-behind-bytes}
use Rattle.wire_values.specs.Displayed.{energies_in, are_finite, energies_of, energies_bytes}
use Rattle.wire_values.specs.Power.{is_finite}
use Rattle.wire_values.specs.declared.displayed.Energies.{Energies}
use Rattle.wire_values.proofs.PowerLaws.{finite-bits}

-- all four are below the infinity's bits: finite, and not negative
pub record Plain (e : Energies) : Type 0 where
  pub e_plus : e.e_plus.0 < 0x7F800000
  pub e_minus : e.e_minus.0 < 0x7F800000
  pub r_plus : e.r_plus.0 < 0x7F800000
  pub r_minus : e.r_minus.0 < 0x7F800000

finite-below : (n : ℕ) → n < 0x7F800000 → is_finite n ≡ true
finite-below n h = finite-bits n ∙ lt-ltb (n % 0x80000000) 0x7F800000 (omega arith)

front : (n : ℕ) (rest : List ℕ) → n < 0x7F800000 → number_at (bytes_of 4 n ++ rest) 0 4 ≡ n
front n rest h = number_at-front 4 n rest ∙ mod-eq_of_lt (omega (arith, h))

-- four energies are 16 bytes
pub length-energies : (e : Energies) → length (energies_bytes e) ≡ 16
unfolding energies_bytes bytes_of
length-energies e = refl

-- four finite energies are read back from their bytes, whatever stands behind them
pub energies_of-bytes : (e : Energies) (rest : List ℕ) → Plain e → energies_of (energies_bytes e ++ rest) ≡ Some e
unfolding energies_of energies_in are_finite energies_bytes
energies_of-bytes e rest h =
    let a = e.e_plus.0 in
    let b = e.e_minus.0 in
    let c = e.r_plus.0 in
    let d = e.r_minus.0 in
    let from-d = bytes_of 4 d ++ rest in
    let from-c = bytes_of 4 c ++ from-d in
    let from-b = bytes_of 4 b ++ from-c in
    let bs = bytes_of 4 a ++ from-b in
    let apart : bytes_of 4 a ++ (bytes_of 4 b ++ (bytes_of 4 c ++ bytes_of 4 d)) ++ rest ≡ bs = simp append_assoc in
    let at-0 : number_at bs 0 4 ≡ a = front a from-b h.e_plus in
    let at-4 : number_at bs 4 4 ≡ b = number_at-behind-bytes 4 a from-b 0 4 ∙ front b from-c h.e_minus in
    let at_8 : number_at bs 8 4 ≡ c =
    number_at-behind-bytes 4 a from-b 4 4 ∙ number_at-behind-bytes 4 b from-c 0 4 ∙ front c from-d h.r_plus in
    let at-12 : number_at bs 12 4 ≡ d =
    number_at-behind-bytes 4 a from-b 8 4 ∙ number_at-behind-bytes 4 b from-c 4 4 ∙ number_at-behind-bytes 4 c from-d 0 4 ∙ front d rest h.r_minus in
    rw (apart, at-0, at-4, at_8, at-12, finite-below a h.e_plus, finite-below b h.e_minus, finite-below c h.r_plus, finite-below d h.r_minus)
