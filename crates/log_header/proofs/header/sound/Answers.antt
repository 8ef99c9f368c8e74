-- `sound` meets its contract: fewer bytes than a header are no log (`short-unsound`), and one test of all that a log must be right in decides (`sound-where`).
use mathlib.Core.Path.{sym}
use Rattle.log_header.proofs.HeaderLaws.{sound-where, short-unsound}
use Rattle.log_header.proofs.header.sound.Goals as goal

pub returns-then-log-lt-HEADER_BYTES : goal.returns-then-log-lt-HEADER_BYTES
returns-then-log-lt-HEADER_BYTES c = sym (short-unsound _ c.if-log-lt-HEADER_BYTES.true)

pub returns-then-is_sound : goal.returns-then-is_sound
returns-then-is_sound c =
    let args = c.args in
    simp (sound-where args.log.now, sym c.is_sound.ensures, c.if-is_sound.true, c.header_at.ensures)

pub returns-else-is_sound : goal.returns-else-is_sound
returns-else-is_sound c =
    let args = c.args in
    simp (sound-where args.log.now, sym c.is_sound.ensures, c.if-is_sound.false)
