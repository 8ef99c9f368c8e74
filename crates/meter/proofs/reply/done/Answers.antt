-- `done` meets its contract: data, seal, store and record are `filled`'s, each by its own call; at most 48 data bytes, so the sums fit.
use Rattle.meter.proofs.ReplyLaws.{data-small}
use mir.Facts.{Fits-le, Fits-lit}
use native.Mathlib.Nat.{add-le-add, le_refl}
use Rattle.meter.proofs.reply.done.Goals as goal

pub overflow_add-size : goal.overflow_add-size
overflow_add-size c =
    Fits-le (add-le-add {d = 48} (le_refl 4) (rw (c.data_size-size.ensures, c.requires.c_value) (data-small c.args.frame.now))) (Fits-lit tt)

pub overflow_add-result : goal.overflow_add-result
overflow_add-result c =
    Fits-le (add-le-add {d = 48} (le_refl 6) (rw (c.data_size-size.ensures, c.requires.c_value) (data-small c.args.frame.now))) (Fits-lit tt)

pub returns : goal.returns
returns c =
    let fill = c.fill in
    let seal = c.seal in
    let clear-store = c.clear_store in
    rw (c.record_after.ensures, clear-store.ensures, seal.ensures, fill.ensures, c.data_size-size.ensures, c.requires.c_value)
