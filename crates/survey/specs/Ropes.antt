-- Metres of rope: their range, their four bytes and their text.
use Rattle.std.specs.Prelude.{ℕ, cond, List, Some, None, decimal, Option, nat_le}
use Rattle.survey.specs.declared.fault.ValueFault.{ValueFault}
use Rattle.survey.specs.declared.fault.ValueFault.TheVariants.{Metres}
use Rattle.survey.specs.declared.metres.MetresRow.{MetresRow}
use Rattle.survey.specs.Bytes.{four, four_bytes}
use Rattle.survey.specs.Formats.{Format}

abbrev pub metres_row : ℕ → MetresRow
metres_row n = record { count = n }

abbrev pub metres_fault : MetresRow → Option ValueFault
metres_fault r = cond (nat_le r.count 1000000) None (Some Metres)

abbrev pub metres_text : MetresRow → List ℕ
metres_text r = decimal r.count

abbrev pub metres_format : Format MetresRow
metres_format =
    record {
      width = 4;
      blank = metres_row 0;
      fault = metres_fault;
      decoded = λ bs. metres_row (four 0 bs);
      encoded = λ r. four_bytes r.count;
      text = metres_text;
    }
