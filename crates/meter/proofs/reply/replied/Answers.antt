-- `replied` meets its contract: head and data, then sealed, are the whole reply's frame (`filled-whole`); a refusal seals the head (`refused-whole`).
use Rattle.meter.proofs.ReplyLaws.{refused-whole, filled-whole, replied-done, replied-refused}
use Rattle.frame.specs.Sealing.{sealed}
use Prim.Native.Nat.{ℕ}
use mathlib.Core.List.{List}
use Rattle.byte_numbers.specs.Place.{written}
use Rattle.meter_command.specs.Command.{command_of}
use Rattle.meter_command.specs.Judgement.{verdict_of}
use Rattle.meter_command.specs.declared.command.Command.{Command}
use Rattle.meter.specs.Reply.{head_of, filled}
use mathlib.Core.Path.{◌≡◌, sym, ap, ◌∙◌}
use Rattle.meter.proofs.reply.replied.Goals as goal

pub returns-then-is_done : goal.returns-then-is_done
returns-then-is_done c =
    let done = c.done in
    let a = c.args in
    let v = c.judge-v.result in
    let same : c.command_of-c.result ≡ command_of a.frame.now = c.command_of-c.ensures in
    done.ensures
    ∙ ap (λ (o : List ℕ). filled v a.r a.store.now a.frame.now o)
    (c.put_head.ensures ∙ ap (λ (x : Command). written a.out.now 0 (head_of v x)) same)
    ∙ filled-whole v a.r a.store.now a.frame.now a.out.now c.requires
    ∙ replied-done v _ a.r a.store.now a.frame.now a.out.now
    (c.judge-v.ensures ∙ ap (λ (x : Command). verdict_of a.met a.r x a.frame.now) same)
    (sym c.is_done.ensures ∙ c.if-is_done.true)

pub returns : goal.returns
returns c =
    let a = c.args in
    let v = c.judge-v.result in
    let same : c.command_of-c.result ≡ command_of a.frame.now = c.command_of-c.ensures in
    replied-refused v _ a.r a.store.now a.frame.now a.out.now _
    (c.judge-v.ensures ∙ ap (λ (x : Command). verdict_of a.met a.r x a.frame.now) same)
    (sym c.is_done.ensures ∙ c.if-is_done.false)
    (c.seal.ensures
    ∙ ap (λ (o : List ℕ). sealed o 4) (c.put_head.ensures ∙ ap (λ (x : Command). written a.out.now 0 (head_of v x)) same)
    ∙ refused-whole v (command_of a.frame.now) a.out.now c.requires)
