-- What is kept between two parts of the input, as the byte-by-byte reading of text/specs/Feed.antt says it. Assumes nothing.
use Rattle.text.specs.Feed.{Reading, reading}
use Rattle.console.specs.declared.feed.Run.{Run}

abbrev pub reading_of : {P Line S L : Type 0} → (P → S) → (Line → L) → Run P Line → Reading S L
reading_of state line r = reading (state r.state) (line r.line) r.over
