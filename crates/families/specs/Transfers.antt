-- Moving rope from one line to another.
use Rattle.std.specs.Prelude.{ℕ, ◌+◌, ◌-◌, cond, not, ◌||◌, Ok, Err, Result, ◌==◌, nat_le, nat_lt}
use Rattle.survey.specs.declared.metres.MetresRow.{MetresRow}
use Rattle.survey.specs.Formats.{or_blank}
use Rattle.survey.specs.Ropes.{metres_row, metres_format}
use Rattle.calls.specs.Endings.{bad_ending}
use Rattle.calls.specs.declared.ending.Ending.{Ending}
use Rattle.calls.specs.declared.order.Order.{Order}
use Rattle.jobs.specs.declared.request.Request.{Request}
use Rattle.jobs.specs.declared.request.Request.TheVariants as request
use Rattle.jobs.specs.Alone.{ends_with}
use Rattle.jobs.specs.Meanings.{Meaning}
use Rattle.families.specs.declared.transfer.Move.{Move}
use Rattle.families.specs.declared.transfer.TransferRefusal.{TransferRefusal}
use Rattle.families.specs.declared.transfer.TransferRefusal.TheVariants.{TooFew, TooMany, BadOrder}
use Rattle.families.specs.declared.transfer.TransferState.{TransferState}
use Rattle.families.specs.declared.transfer.TransferState.TheVariants.{Leaving, Coming, Taking, Giving, Given}

-- what a transfer goes on with, or why nothing is moved
abbrev pub Moving : Type 0
Moving = Result TransferState TransferRefusal

-- the metres that a row counts as
abbrev pub metres_of : MetresRow → ℕ
metres_of row = (or_blank metres_format row).count

-- the move that an order of kind 0 asks for
abbrev pub asked_move : Order → Move
asked_move o = record { from = o.a; to = o.b; metres = o.c }

abbrev pub transfer_first : Order → Moving
transfer_first o = cond (not (o.kind == 0) || o.a == o.b) (Err BadOrder) (Ok (Leaving (asked_move o)))

-- what users see of a refusal
abbrev pub refused : TransferRefusal → Ending
refused TooFew = ends_with 1 0
refused TooMany = ends_with 2 0
refused BadOrder = bad_ending

abbrev pub transfer_request : Moving → Request MetresRow
transfer_request (Ok (Leaving asked)) = request.Read asked.from
transfer_request (Ok (Coming asked held)) = request.Read asked.to
transfer_request (Ok (Taking from left to total)) = request.Write from (metres_row left)
transfer_request (Ok (Giving to total)) = request.Write to (metres_row total)
transfer_request (Ok Given) = request.End (ends_with 0 0)
transfer_request (Err refusal) = request.End (refused refusal)

-- too few metres in the first line, then too many in the second
abbrev pub decided : Move → ℕ → ℕ → Moving
decided asked held there =
    cond (nat_lt held asked.metres) (Err TooFew)
    (cond (nat_le (there + asked.metres) 1000000) (Ok (Taking asked.from (held - asked.metres) asked.to (there + asked.metres))) (Err TooMany))

abbrev pub transfer_read : Moving → MetresRow → Moving
transfer_read (Ok (Leaving asked)) row = Ok (Coming asked (metres_of row))
transfer_read (Ok (Coming asked held)) row = decided asked held (metres_of row)
transfer_read (Ok (Taking from left to total)) row = Ok (Taking from left to total)
transfer_read (Ok (Giving to total)) row = Ok (Giving to total)
transfer_read (Ok Given) row = Ok Given
transfer_read (Err refusal) row = Err refusal

abbrev pub transfer_written : Moving → Moving
transfer_written (Ok (Leaving asked)) = Ok (Leaving asked)
transfer_written (Ok (Coming asked held)) = Ok (Coming asked held)
transfer_written (Ok (Taking from left to total)) = Ok (Giving to total)
transfer_written (Ok (Giving to total)) = Ok Given
transfer_written (Ok Given) = Ok Given
transfer_written (Err refusal) = Err refusal

abbrev pub transfer : Meaning MetresRow Moving
transfer = record { first = transfer_first; request = transfer_request; after_read = transfer_read; after_write = transfer_written }
