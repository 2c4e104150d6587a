-- A run is counted exactly as what stands in it, as a statement; the proof is in proofs/.
use Rattle.std.specs.Prelude.{ℕ, ◌≡◌, ◌↔◌, List, length, Some}
use Rattle.elements.specs.declared.Element.{Element}
use Rattle.elements.specs.Besides.Matching.{ElementsAt}
use Rattle.elements.specs.Matching.{in_list}
use Rattle.parts.specs.Counting.{count_of}

-- A run is counted as k elements exactly if it is k elements, from its first byte to its last.
abbrev pub Counts : Type 0
Counts = (e : Element) (run : List ℕ) (k : ℕ) → (count_of e run ≡ Some k) ↔ ElementsAt run in_list e 0 k 0 (length run)
