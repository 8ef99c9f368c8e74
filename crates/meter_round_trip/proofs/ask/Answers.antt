-- `ask` meets its contract: the frame is the request's, the reply lies within the output (`reply-lies`), and silence or what the reader says is `asked`.
use Rattle.std.specs.Prelude.{Ok, Err, Result}
use Rattle.reader.specs.declared.reply.Decoded.{Decoded}
use Rattle.meter_round_trip.specs.declared.InquiryError.{InquiryError}
use Rattle.meter_round_trip.specs.Inquiry.{outcome}
use Rattle.meter_round_trip.proofs.InquiryLaws.{reply-lies, told-err, asked-silent, asked-told}
use lib.Seq.{length-take-le}
use mathlib.Core.Path.{sym, ap, ◌∙◌}
use Rattle.meter_round_trip.proofs.ask.Goals as goal

pub returns-then-is_silent : goal.returns-then-is_silent
returns-then-is_silent c =
    let args = c.args in
    let frame-of = c.frame_of-frame in
    let answer = c.answer-a in
    asked-silent args.r args.store.now _ args.q args.out.now _ _ _ frame-of.ensures answer.ensures (sym c.is_silent.ensures ∙ c.if-is_silent.true)

pub slice_bounds-decode-end : goal.slice_bounds-decode-end
slice_bounds-decode-end c =
    let answer = c.answer-a in
    reply-lies c.args.r c.args.store.now _ c.args.out.now _ _ _ c.requires.longest_in_bounds answer.ensures

pub slice_bounds-decode-end-2 : goal.slice_bounds-decode-end-2
slice_bounds-decode-end-2 c =
    let args = c.args in
    let pre = c.requires in
    let answer = c.answer-a in
    sym (length-take-le _ _ (reply-lies args.r args.store.now _ args.out.now _ _ _ pre.longest_in_bounds answer.ensures))

pub returns : goal.returns
returns c =
    let args = c.args in
    asked-told args.r args.store.now _ args.q args.out.now _ _ _ (Ok c.in_ok-decode.field-0) c.frame_of-frame.ensures c.answer-a.ensures
    (sym c.is_silent.ensures ∙ c.if-is_silent.false) (sym c.in_ok-decode.was ∙ c.decode.ensures)

pub returns-in_err-decode : goal.returns-in_err-decode
returns-in_err-decode c =
    let args = c.args in
    let error = c.in_err-decode.field-0.0 in
    ap (λ (x : Result Decoded InquiryError). outcome x c.answer-a.new.store c.answer-a.new.out)
    (told-err c.from_residual.result error c.from_residual.ensures.1)
    ∙ asked-told args.r args.store.now _ args.q args.out.now _ _ _ (Err error) c.frame_of-frame.ensures c.answer-a.ensures
    (sym c.is_silent.ensures ∙ c.if-is_silent.false) (sym c.in_err-decode.was ∙ c.decode.ensures)
