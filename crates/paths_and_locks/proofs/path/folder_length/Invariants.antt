-- `folder_length` meets its contract: no slash stands from `i` on, so the last one before `i` is the last of all.
use Rattle.std.proofs.Common.{◌≡◌, length}
use Rattle.paths_and_locks.specs.Path.{folder_length}
use Rattle.paths_and_locks.proofs.path.folder_length.Given as goal

abbrev pub invariant-loop-i : goal.invariant-loop-i
invariant-loop-i l = folder_length l.i l.path ≡ folder_length (length l.path) l.path
