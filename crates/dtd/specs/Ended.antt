-- To be believed: what the program does with the bytes that it is given.
-- Assumes nothing.
use Rattle.std.specs.Prelude.{ℕ, List, Option, IfSome}
use Rattle.std.specs.Io.KnownBytes.{Appends, Keeps}
use Rattle.book.specs.Taken.{taken_book}
use Rattle.dtd_output.specs.Output.{output_of}
use Rattle.dtd.specs.declared.Ended.{Ended}
use Rattle.dtd.specs.declared.Ended.TheVariants.{Printed, Unread, Unwritten}

-- Of a reader that still has the bytes `given` and a writer that holds `before`, where these are known: the writer gets
-- the output for these bytes as the book and nothing else; and where they could not be read, nothing.
-- Where a write failed, a part of the output may be written.
abbrev pub Answers : Ended → Option (List ℕ) → Option (List ℕ) → Option (List ℕ) → Type 0
Answers Printed given before after = IfSome given (λ bytes. Appends before after (output_of (taken_book bytes)))
Answers Unread given before after = Keeps before after
Answers Unwritten given before after = Unit {0}
