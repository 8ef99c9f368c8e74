-- The marked examples of document 01: "P: proved together as a single table". Proof: `marked`, proofs/Claims.antt, one computed test.
use Rattle.std.specs.Prelude.{◌≡◌, Bool, true, false, not, ◌&&◌, List, [], ◌∷◌, ◌++◌, map, ℕ, zero, suc, eqb, replicate, None, Option, Some}
use Rattle.refusal.specs.Outcome.{Outcome}
use Rattle.byte_numbers.specs.Number.{bytes_of}
use Rattle.frame.specs.Sealing.{framed}
use Rattle.energy_log.specs.Fresh.{fresh_image}
use Rattle.energy_log.specs.View.{view_of}
use Rattle.log_cell.specs.declared.cell.Cell.TheVariants.{Gap, Empty, Measured}
use Rattle.log_cell.specs.declared.cell.Cell.{Cell}
use Rattle.day_rows.specs.LogAndRows.{log_and_rows}
use Rattle.logger.specs.Ask.{asked}
use Rattle.logger.specs.Book.{Call, ask, reply, Answer}
use Rattle.logger.specs.Run.{State, state, run}
use Rattle.wire_values.specs.Telemetry.{telemetry_bytes}
use Rattle.meter_clock.specs.Protection.{opened, quiet_second}
use Rattle.meter_clock.specs.declared.protection.Level.TheVariants.{Main}
use Rattle.meter_clock.specs.declared.protection.Protection.{Protection}
use Rattle.meter_clock.specs.declared.season.Season.TheVariants.{Winter}
use Rattle.meter_record.specs.Record.{fresh}
use Rattle.meter_record.specs.With.{with_protection}
use Rattle.meter_record.specs.declared.record.Record.{Record}
use Rattle.meter_command.specs.Access.{is_main, is_open}
use Rattle.meter_command.specs.Judgement.{verdict_of}
use Rattle.meter_command.specs.Verdict.{number_of}
use Rattle.meter_command.specs.declared.access.Met.TheVariants.{Own}
use Rattle.calendar.specs.Sunday.{last_sunday}
use Rattle.meter_command.specs.Command.{command_of}

-- two lists of bytes are the same
unfoldable pub same : List ℕ → List ℕ → Bool
same [] [] = true
same [] (y ∷ ys) = false
same (x ∷ xs) [] = false
same (x ∷ xs) (y ∷ ys) = eqb x y && same xs ys

-- all tests pass
unfoldable pub all : List Bool → Bool
all [] = true
all (b ∷ bs) = b && all bs

-- P4, P9: a fresh log that starts on 17 May
abbrev fresh_log : List ℕ
fresh_log = fresh_image (record { start = record { year = 24; month = 5; day = 17 }; days = 1; minutes = 30; ke = 100; seasons = 0 })

-- and its figures: 48 gaps
abbrev fresh_figures : List ℕ
fresh_figures = 48 ∷ 0 ∷ 0 ∷ 0 ∷ 0 ∷ 0 ∷ 0 ∷ 0 ∷ []

-- P9: three replies on one cell of a fresh log
abbrev slice-reply : ℕ → ℕ → List ℕ
slice-reply e+ r+ = framed (1 ∷ 3 ∷ 36 ∷ 0 ∷ (bytes_of 2 e+ ++ (bytes_of 2 0 ++ (bytes_of 2 r+ ++ bytes_of 2 0))))

abbrev first_slot : Call
first_slot = ask 1 0 0 (replicate 8 0)

three_replies : Outcome (List Answer) State
three_replies =
    run (state (log_and_rows fresh_log fresh_figures) None) (first_slot ∷ reply (slice-reply 0 0) ∷ first_slot ∷ reply (slice-reply 12 3) ∷ first_slot ∷ reply (slice-reply 13 3) ∷ [])

-- the counts of a measured cell
counts_of : Option Cell → List ℕ
counts_of (Some (Measured e+ e- r+ r-)) = e+ ∷ e- ∷ r+ ∷ r- ∷ []
counts_of (Some Gap) = []
counts_of (Some Empty) = []
counts_of None = []

-- P5, P6: the number that a change of the telemetry gets, by a meter with that Ke and main access
meter_with : ℕ → Record
meter_with ke =
    with_protection
    (fresh 1 30 (record { k = 40000; ke = ke; reserve = 0 })
    (record { date = record { year = 24; month = 5; day = 17 }; hour = 0; minute = 0; second = 0 }) Winter)
    (opened Main)

change_gets : ℕ → ℕ → ℕ
unfolding meter_with
change_gets ke k =
    let f = framed (1 ∷ 16 ∷ 24 ∷ 0 ∷ telemetry_bytes (record { k = k; ke = ke; reserve = 0 })) in
    number_of (verdict_of Own (meter_with ke) (command_of f) f)

-- P10: the level after so many quiet seconds
quiet : ℕ → Protection → Protection
quiet zero p = p
quiet (suc n) p = quiet n (quiet_second p)

unfoldable pub examples : List Bool
unfolding same three_replies counts_of change_gets quiet
examples =
    -- P1, P2, P3: the CRC of three frames
    same (framed (0x01 ∷ 0x66 ∷ [])) (0x01 ∷ 0x66 ∷ 0x80 ∷ 0x0A ∷ [])
    ∷ same (framed (0x01 ∷ 0x03 ∷ 0x00 ∷ 0x04 ∷ 0x00 ∷ 0x06 ∷ [])) (0x01 ∷ 0x03 ∷ 0x00 ∷ 0x04 ∷ 0x00 ∷ 0x06 ∷ 0x84 ∷ 0x09 ∷ [])
    ∷ same (framed (0x00 ∷ 0x00 ∷ 0x04 ∷ 0xD2 ∷ 0x27 ∷ [])) (0x00 ∷ 0x00 ∷ 0x04 ∷ 0xD2 ∷ 0x27 ∷ 0x79 ∷ 0x7B ∷ [])
    -- P4: ask address 1, 17 May, slot 0: what an ask for the log's first interval puts into eight lent bytes
    ∷ same (asked (view_of fresh_log) None 1 0 0 (replicate 8 0)).left (0x01 ∷ 0x03 ∷ 0x24 ∷ 0x05 ∷ 0x11 ∷ 0x00 ∷ 0x53 ∷ 0x6B ∷ [])
    -- P5: Ke 20, P6: Ke 100
    ∷ same (map (change_gets 20) (2000 ∷ 250000 ∷ 1999 ∷ 250001 ∷ [])) (0 ∷ 0 ∷ 15 ∷ 15 ∷ [])
    ∷ same (map (change_gets 100) (400 ∷ 50000 ∷ [])) (0 ∷ 0 ∷ [])
    -- P7, P8: the switch days of 2006 and 2024
    ∷ same (map (last_sunday 6) (3 ∷ 10 ∷ [])) (26 ∷ 29 ∷ [])
    ∷ same (map (last_sunday 24) (3 ∷ 10 ∷ [])) (31 ∷ 27 ∷ [])
    -- P9: answers 0, 0, 25, each after its ask, and the cell 12 0 3 0
    ∷ same (map (λ (a : Answer). a.number) three_replies.result) (0 ∷ 0 ∷ 0 ∷ 0 ∷ 0 ∷ 25 ∷ [])
    ∷ same (counts_of ((view_of three_replies.left.log).cell 0)) (12 ∷ 0 ∷ 3 ∷ 0 ∷ [])
    -- and the day's figures: 47 gaps, one measured cell with its counts (document 02, CR 8)
    ∷ same three_replies.left.figures (47 ∷ 0 ∷ 1 ∷ 12 ∷ 0 ∷ 3 ∷ 0 ∷ 0 ∷ [])
    -- P10: 239 quiet seconds keep the level, the 240th ends it
    ∷ is_main (quiet 239 (opened Main)).level
    ∷ not (is_open (quiet 240 (opened Main)).level)
    ∷ []

-- the claim
pub record Marked : Type 0 where
  pub together : all examples ≡ true
