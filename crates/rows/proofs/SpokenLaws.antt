-- The code's tables: protocols by number on the wire, and the last states by bundle and instance.
-- Assumes nothing.
use mathlib.Core.Path.{◌≡◌, ap, ◌∙◌}
use mathlib.Core.Bool.{Bool}
use mathlib.Core.List.{List, [], ◌∷◌, ◌++◌, map}
use Prim.Native.Nat.{ℕ, ◌<◌}
use lib.Dec.{T, eqb, eqb→eq}
use lib.ListN.{get_or, take, replicate}
use Rattle.base.proofs.ListLaws.{get_or-map}
use Rattle.base.proofs.Table.{every, at}
use Rattle.wire.specs.declared.instances.Role.TheVariants.{Initiator}
use Rattle.wire.specs.Instances.{Instance, bundles, instances, most}
use Rattle.wire.specs.Inside.{numbers}
use Rattle.wire.proofs.InstanceLaws.{of_instances}
use Rattle.rows.specs.declared.Protocol.{Protocol}
use Rattle.rows.specs.declared.Protocol.TheVariants.{Handshake}
use Rattle.rows.specs.Rows.{done_of, place_in}
use Rattle.rows.specs.Spoken.{spoken, speaks}

abbrev all : List ℕ
all = 0 ∷ 1 ∷ 2 ∷ 3 ∷ 4 ∷ 5 ∷ 6 ∷ 7 ∷ 8 ∷ []

unfoldable pub by_number : List Protocol
by_number = map spoken all

pub spoken_right : (n : ℕ) → n < numbers → get_or by_number n Handshake ≡ spoken n
unfolding by_number
spoken_right n h = get_or-map spoken all n 0 Handshake h ∙ ap spoken (eqb→eq (get_or all n 0) n (at 0 (λ i k. eqb k i) all tt n h))

-- by bundle and instance, the state that its protocol ends in
abbrev last_of : Instance → ℕ
last_of x = done_of (spoken x.protocol)

unfoldable pub lasts : List (List ℕ)
lasts = map (λ xs. take most (map last_of xs ++ replicate most 0)) bundles

lasting : ℕ → ℕ → Instance → Bool
lasting b i x = eqb (get_or (get_or lasts b []) i 0) (last_of x)

all_lasting : T (every [] (λ b xs. every (record { protocol = 0; role = Initiator }) (lasting b) 0 xs) 0 bundles)
unfolding lasting lasts place_in
all_lasting = tt

pub last_right : (b i : ℕ) → i < instances b → get_or (get_or lasts b []) i 0 ≡ done_of (speaks b i)
unfolding lasting speaks
last_right b i h = eqb→eq (get_or (get_or lasts b []) i 0) (done_of (speaks b i)) (of_instances lasting all_lasting b i h)
