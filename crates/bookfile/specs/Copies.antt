-- What copying a book by way of a file answers and leaves.
use Rattle.std.specs.Prelude.{◌≡◌, ℕ, ◌<◌, ◌≢◌, List, map, length, Ok, Err, Result}
use Rattle.survey.specs.Formats.{Format, or_blank}
use Rattle.bookfile.specs.declared.copy.CopyRefusal.{CopyRefusal}
use Rattle.bookfile.specs.declared.copy.CopyRefusal.TheVariants.{Save, Load}
use Rattle.bookfile.specs.declared.fault.FileCause.TheVariants.{Lines}
use Rattle.bookfile.specs.declared.save.SaveRefusal.TheVariants.{ShortOutput}
use Rattle.bookfile.specs.Files.{file_size}

-- from the lines of a book, by a file with so much room, to those of another before and after:
-- the same lines, rows outside the ranges counting as the blank; or no room; or a book of another size, and then no line changed
abbrev pub Copies : {R : Type 0} → Format R → List R → ℕ → List R → List R → Result (Unit {0}) CopyRefusal → Type 0
Copies f lines room before after (Ok x) = (length before ≡ length lines) × (after ≡ map (or_blank f) lines)
Copies f lines room before after (Err (Save e)) = (room < file_size f (length lines)) × (e ≡ ShortOutput) × (after ≡ before)
Copies f lines room before after (Err (Load e)) =
    (length before ≢ length lines) × (e ≡ record { place = 0; cause = Lines }) × (after ≡ before)
