-- What follows from the definitions of specs/Reply.antt, for proofs alone: no contract cites it.
use mathlib.Core.Path.{◌≡◌, refl, sym, ap, ap₂, ◌∙◌}
use mathlib.Core.List.{List, ◌++◌}
use Prim.Native.Nat.{ℕ, ◌+◌, ◌-◌, ◌≤◌}
use native.Mathlib.Nat.{zero-add}
use native.Mathlib.Omega.{arith}
use lib.ListN.{length, take, drop, length-append}
use Rattle.byte_numbers.specs.Place.{written}
use Rattle.byte_numbers.proofs.PlaceLaws.{written-append}
use Rattle.byte_numbers.proofs.Part.{written-rest}
use Rattle.frame.specs.Sealing.{sealed}
use Rattle.frame.proofs.SealingLaws.{sealed-written, length-framed}
use Rattle.mercury.specs.Command.{code_of, data_size}
use Rattle.mercury.specs.Layout.{head_of, bare_size}
use Rattle.mercury.specs.Reply.{reply_frame}
use Rattle.mercury.specs.declared.command.Command.{Command}
use Rattle.mercury.specs.declared.command.Command.TheVariants.{Tariffs, Load, Frequency, Unknown}
use Rattle.mercury.proofs.CommandLaws.{data-small}
use Rattle.mercury.proofs.DataLaws.{length-tariffs, length-load, length-frequency}
use Rattle.mercury.proofs.LayoutLaws.{length-head}
use Rattle.mercury_bench.specs.Reply.{data_of, reply_of}
use Rattle.mercury_bench.specs.declared.meter.Meter.{Meter}

-- the bench's data has the length that the reader asks for
pub length-data : (c : Command) (m : Meter) → length (data_of c m) ≡ data_size c
unfolding data_of
length-data Tariffs m = length-tariffs m.tariffs
length-data Load m = length-load m.load
length-data Frequency m = length-frequency m.frequency
length-data Unknown m = refl

length-body : (c : Command) (m : Meter) → length (head_of m.address (code_of c) ++ data_of c m) ≡ 5 + data_size c
length-body c m = length-append (head_of m.address (code_of c)) (data_of c m) ∙ ap₂ ◌+◌ (length-head m.address (code_of c)) (length-data c m)

-- the length that the bench tells of its reply
pub length-reply : (c : Command) (m : Meter) → length (reply_of c m) ≡ bare_size + data_size c
unfolding reply_of reply_frame
length-reply c m = length-framed (head_of m.address (code_of c) ++ data_of c m) ∙ omega (arith, length-body c m)

-- head, data behind it, and the CRC behind those are a reply
pub sealed-reply : (c : Command) (m : Meter) (out : List ℕ) → 64 ≤ length out
    → sealed (written (written out 0 (head_of m.address (code_of c))) 5 (data_of c m)) (5 + data_size c) ≡ written out 0 (reply_of c m)
unfolding reply_of reply_frame
sealed-reply c m out h =
    let head = head_of m.address (code_of c) in
    let body = head ++ data_of c m in
    let both : written (written out 0 head) 5 (data_of c m) ≡ written out 0 body =
    sym (written-append out 0 head (data_of c m) ∙ ap (λ (k : ℕ). written (written out 0 head) k (data_of c m)) (zero-add (length head) ∙ length-head m.address (code_of c))) in
    ap₂ sealed both (sym (length-body c m)) ∙ sealed-written out body (omega (arith, length-body c m, data-small c, h))

-- what is put to the front of the part from the sixth byte on
pub part_filled : (s put bytes : List ℕ) → put ≡ written (take (length s - 5) (drop 5 s)) 0 bytes
    → take 5 s ++ (put ++ drop (length s - 5) (drop 5 s)) ≡ written s 5 bytes
part_filled s put bytes e = ap (λ (l : List ℕ). take 5 s ++ (l ++ drop (length s - 5) (drop 5 s))) e ∙ written-rest 5 s 0 bytes
