-- The numbers that users see for refusals. Assumes nothing.
use Rattle.std.specs.Prelude.{ℕ}
use Rattle.book.specs.declared.refusal.BookRefusal.{BookRefusal}
use Rattle.book.specs.declared.refusal.BookRefusal.TheVariants as book
use Rattle.calls.specs.declared.refusal.Refusal.{Refusal}
use Rattle.calls.specs.declared.refusal.Refusal.TheVariants.{NoSeat, SeatTaken, SeatVacant, NoLine, TooManyWrites, LongBook, ShortMemory}

abbrev pub refusal_number : Refusal → ℕ
refusal_number NoSeat = 1
refusal_number SeatTaken = 2
refusal_number SeatVacant = 3
refusal_number NoLine = 4
refusal_number TooManyWrites = 5
refusal_number LongBook = 6
refusal_number ShortMemory = 7

-- a book's refusal, as a call has it
abbrev pub refused_by_book : BookRefusal → Refusal
refused_by_book book.NoLine = NoLine
