-- What showing a book file prints.
use Rattle.std.specs.Prelude.{◌≡◌, ℕ, ◌+◌, List, [], ◌∷◌, ◌++◌, length, replicate, Some, None, Option, String, string_bytes}
use Rattle.survey.specs.Formats.{Format, or_blank}
use Rattle.bookfile.specs.Faults.{FileFault}
use Rattle.bookfile.specs.Files.{stated_lines, file_fault, pair_count}
use Rattle.bookfile.specs.Loads.{loaded}
use Rattle.script.specs.declared.listing.Fault.TheVariants.{File}
use Rattle.script.specs.Listing.{look_line, fault_line}

-- the text afterwards is the text before with some bytes behind it
abbrev pub Adds : {A : Type 0} → String A → List ℕ → String A → Type 0
Adds before bytes after = string_bytes after ≡ string_bytes before ++ bytes

module _ {R : Type 0} (f : Format R) where
  -- lines from number i on, as looking at each prints it
  unfoldable pub book_lines : ℕ → List R → List ℕ
  book_lines i [] = []
  book_lines i (row ∷ rows) = look_line i (f.text (or_blank f row)) ++ book_lines (i + 1) rows

  abbrev pub unless_fault : Option FileFault → List R → List ℕ
  unless_fault None lines = book_lines 0 lines
  unless_fault (Some e) lines = fault_line (File e)

  -- every line of the book into which the file was loaded, or the fault and nothing else
  abbrev pub lines_or_fault : List ℕ → List R → List ℕ
  lines_or_fault bs lines = unless_fault (file_fault f (length lines) bs) (loaded f (pair_count bs) bs 0 (pair_count bs) lines)

  -- the book that is made has as many lines as the file states, all blank
  abbrev pub shown : List ℕ → List ℕ
  shown bs = lines_or_fault bs (replicate (stated_lines bs) f.blank)
