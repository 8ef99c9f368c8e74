-- `by_pairs` meets its contract: the loop keeps that the CRC from the two words over the bytes not yet passed is the CRC of all.
use Rattle.crc16.specs.Word.{register, pair_register}
use Rattle.crc16.proofs.WordLaws.{crc_from-bytes_of, crc_from-number}
use Rattle.crc16.specs.Crc.{start, crc_of, crc_from, times, bit_step}
use Rattle.byte_numbers.specs.Place.{number_at}
use Rattle.byte_numbers.specs.Number.{bytes_of}
use borrow.Author.Rules.{rules}
use Rattle.std.proofs.lemmas.Slice.{between_to_end}
use Rattle.std.specs.Simd.{first_chunks}
use Rattle.crc16.proofs.Chunks.{number-in-chunk}
use lib.ListN.{length, drop, length-drop}
use lib.Seq.{drop-drop}
use native.Mathlib.Nat.{zero-add, add-zero, le_refl}
use native.Mathlib.Omega.{arith}
use Prim.Native.Nat.{ℕ, ◌+◌, ◌*◌, ◌/◌, ◌≤◌}
use mathlib.Core.Path.{◌≡◌, sym, ap, ◌∙◌}
use Rattle.crc16.proofs.by_pairs.Goals as goal

pub loop-pair-init : goal.loop-pair-init
unfolding crc_of register times bit_step
loop-pair-init c =
    let s = c.args.bytes.now in
    let w = c.u64_at.result in (
      search rules,
      ap (λ (r : ℕ). crc_from r (drop 8 s)) (sym (crc_from-bytes_of 8 start w (search rules)))
          ∙ (rw c.u64_at.ensures (rw zero-add at (crc_from-number 8 0 start s (λ k. (c.type_inv.bytes k).fits) (omega arith)))),
    )

pub loop-pair-preserved : goal.loop-pair-preserved
loop-pair-preserved c =
    let loop = c.loop-pair in
    let bytes = c.args.bytes.now in
    let k = loop.pair-index in
    let i = 8 + k * 16 in
    let n = length (drop 8 bytes) / 16 in
    let whole = between_to_end bytes 8 (length bytes) (le_refl (length bytes)) in
    let front : c.as_chunks.result.0.now ≡ first_chunks 16 n (drop 8 bytes) = rw whole at c.as_chunks.ensures.front in
    let many : length c.as_chunks.result.0.now ≡ n = rw whole at c.as_chunks.ensures.front_len in
    let room : i + 16 ≤ length bytes = omega (arith, length-drop 8 bytes) in
    let low : c.u64_at-in-loop-pair.result ≡ number_at bytes i 8 =
    c.u64_at-in-loop-pair.ensures ∙ rw front (rw add-zero at (number-in-chunk 8 16 n k 0 8 bytes (omega arith) (omega arith))) in
    let high : c.u64_at-in-loop-pair-2.result ≡ number_at bytes (i + 8) 8 =
    c.u64_at-in-loop-pair-2.ensures ∙ rw front (number-in-chunk 8 16 n k 8 8 bytes (omega arith) (omega arith)) in
    let r = pair_register loop.p.first loop.p.second in
    let first = crc_from-number 8 i r bytes (λ j. (c.type_inv.bytes j).fits) (omega arith) in
    let second = crc_from-number 8 (i + 8) (crc_from r (bytes_of 8 (number_at bytes i 8))) bytes (λ j. (c.type_inv.bytes j).fits) (omega arith) in
    let next : 8 + (k + 1) * 16 ≡ i + 8 + 8 = omega arith in
    (search rules, rw (c.pair_more-p.ensures, low, high, next) (second ∙ first ∙ loop.invariant.1))

pub returns : goal.returns
unfolding register
returns c =
    let loop = c.loop-pair in
    let bytes = c.args.bytes.now in
    let n = length (drop 8 bytes) / 16 in
    let whole = between_to_end bytes 8 (length bytes) (le_refl (length bytes)) in
    let many : length c.as_chunks.result.0.now ≡ n = rw whole at c.as_chunks.ensures.front_len in
    let rest : c.as_chunks.result.1.now ≡ drop (n * 16) (drop 8 bytes) = rw whole at c.as_chunks.ensures.back in
    let end : 8 + n * 16 ≡ 8 + loop.pair-index * 16 = omega arith in
    c.by_word.ensures
    ∙ rw (rest, drop-drop (n * 16) 8 bytes, end, c.word_more.ensures, crc_from-bytes_of 8 (register loop.p.first) loop.p.second (search rules)) loop.invariant.1
