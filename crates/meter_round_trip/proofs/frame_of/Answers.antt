-- `frame_of` meets its contract: an askable request is put, and a frame of eight bytes fills the eight there are (`frame-whole`).
use Rattle.meter_round_trip.proofs.InquiryLaws.{frame-whole}
use mathlib.Core.Path.{refl}
use Rattle.meter_round_trip.proofs.frame_of.Goals as goal

pub returns : goal.returns
returns c =
    let args = c.args in
    frame-whole args.q _ _ _ refl c.requires c.put_request.ensures
