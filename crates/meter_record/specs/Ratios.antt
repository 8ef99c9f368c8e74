-- The ratios. Source: document 02, request 3: "The record gets the ratios KI and KU, whole numbers from 1 (at first 1 each), product at most
-- 1,000,000 (house limit)."; 002, section 4.1 and section 4.11 (page 16).
use Rattle.std.specs.Prelude.{Bool, ◌&&◌, ◌*◌, leb}
use Rattle.meter_record.specs.declared.record.Ratios.{Ratios}

-- "whole numbers from 1 .., product at most 1,000,000"
unfoldable pub are_ratios : Ratios → Bool
are_ratios k = leb 1 k.ki && leb 1 k.ku && leb (k.ki * k.ku) 1000000
