-- The table of marked examples, computed.
use mathlib.Core.Path.{◌≡◌, refl}
use mathlib.Core.Bool.{true}
use Rattle.crc16.specs.Crc.{crc_of, crc_from, byte_step, eight_bits, times, bit_step}
use Rattle.byte_numbers.specs.Number.{bytes_of, number}
use Rattle.byte_numbers.specs.Place.{number_at, written}
use Rattle.frame.specs.Sealing.{framed, crc_fits}
use Rattle.reader.specs.Form.{reply_of, form_of, length_for, function_for, head_of}
use Rattle.request.specs.Request.{request_frame}
use Rattle.log_cell.specs.Cell.{no_counts, kind_fits, cell_by, kind_cell}
use Rattle.energy_log.specs.Fresh.{gaps, fresh_image}
use Rattle.log_header.specs.Header as log
use Rattle.slots.specs.Day.{is_minutes, slots_of}
use Rattle.log_header.specs.Header.{cells_of, days_right, is_header, date_bytes, header_bytes_as, header_at, mark_right, version_right, fields_right, header_of, fitted_to, sound_of}
use Rattle.energy_log.specs.Pair.{pair_of, packed, put_pair}
use Rattle.energy_log.specs.Image.{cells_at, read_among, cell_at, put_kind, put_counts, put_cell_among, put_cell, applied, kinds_bytes, column_bytes, lapses_bytes, cells_bytes, image_of}
use Rattle.season_nights.specs.Night.{missing, doubled}
use Rattle.log_header.specs.Interval.{night_on, exists, comes_twice, interval_of}
use Rattle.day_rows.specs.Tallies as figure-row
use Rattle.day_rows.specs.Tallies.{tallies_in}
use Rattle.day_rows.specs.Rows.{figures_of, row_at, put_row}
use Rattle.day_rows.specs.Put.{cell_row, net_fits, row_fits, net_row, moved_by, change_of}
use Rattle.logger.specs.Ask as Ask
use Rattle.wire_values.specs.Row as row
use Rattle.logger.specs.Take as Take
use Rattle.logger.specs.Book.{run_of}
use Rattle.logger.specs.Run.{step}
use Rattle.parameters.specs.Code.{function_of}
use Rattle.parameters.specs.Table.{parameter_of, first_of}
use Rattle.wire_values.specs.Telemetry.{telemetry_of, telemetry_bytes}
use Rattle.meter_clock.specs.Protection.{quiet_second}
use Rattle.meter_record.specs.Ranges.{is_telemetry}
use Rattle.meter_record.specs.Record.{fresh}
use Rattle.meter_command.specs.Change.{telemetry_fits, data_fits}
use Rattle.meter_command.specs.Judgement.{verdict_of, verdict_by, change_verdict, checked, passed, argument_fits}
use Rattle.meter_command.specs.Command.{parameter_byte}
use Rattle.calendar.specs.Count.{starts, count_off}
use Rattle.calendar.specs.Date.{date_of, date_at, day_number, length_of, days_in_month, month_lengths, leap, is_date}
use Rattle.calendar.specs.Sunday.{last_sunday}
use Rattle.claims.specs.Examples.{all, examples}

-- the claim `Marked`: P1 to P10 pass, one computed test
pub together : all examples ≡ true
unfolding all examples framed bytes_of request_frame crc_of crc_from byte_step eight_bits times bit_step last_sunday date_of date_at count_off day_number starts
    length_of days_in_month month_lengths leap run_of step Ask.asked Take.taken Take.decided Take.updated Take.put_with Take.update_of
    row.row_at row.is_zero row.alike reply_of form_of length_for function_for head_of
    crc_fits number_at number written is_date is_minutes slots_of cells_of log.length_of days_right is_header date_bytes header_bytes_as header_at mark_right
    version_right fields_right header_of fitted_to sound_of no_counts kind_fits cell_by kind_cell pair_of packed put_pair cells_at read_among cell_at put_kind put_counts put_cell_among put_cell
    applied kinds_bytes column_bytes lapses_bytes cells_bytes image_of
    missing night_on exists interval_of gaps fresh_image verdict_of verdict_by change_verdict checked passed argument_fits telemetry_fits is_telemetry parameter_byte function_of
    parameter_of first_of data_fits telemetry_of telemetry_bytes fresh quiet_second
    figures_of row_at put_row comes_twice doubled change_of moved_by cell_row row_fits net_fits net_row tallies_in figure-row.report_row
together = refl
