-- What only functions below the programs cite: a word as a part of a line.
use Rattle.std.specs.Prelude.{◌≤◌, ℕ, List, length}
use Rattle.script.specs.declared.Word.{Word}

-- the word lies in the line
abbrev pub LiesIn : List ℕ → Word → Type 0
LiesIn line w = (w.from ≤ w.to) × (w.to ≤ length line)
