-- What a caller of build may ask for (document 02, K2).
use Rattle.std.specs.Prelude.{Bool, false}
use Rattle.elements.specs.declared.Element.{Element}
use Rattle.elements.specs.declared.Element.TheVariants as element

-- A list is written of indefinite length if the caller asks for it, and a version map never.
abbrev pub openly : Bool → Element → Bool
openly asked element.Item = asked
openly asked element.Pair = asked
openly asked element.Version = false
