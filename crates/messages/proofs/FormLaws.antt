-- Laws of the table of forms: what a row's columns say, and the search along them.
-- Assumes nothing.
use Rattle.std.specs.Prelude.{Option, Some}
use mathlib.Core.Path.{◌≡◌, refl, sym, ap, ◌∙◌}
use mathlib.Core.Bool.{Bool, cond}
use mathlib.Core.List.{List, [], ◌∷◌}
use mathlib.Core.List as lists
use Prim.Native.Nat.{ℕ, ◌<◌, ◌≤◌}
use lib.Dec.{T, eqb, leb, leb→le}
use lib.ListN.{length, get_or}
use Rattle.base.proofs.ListLaws.{get_or-map}
use Rattle.base.proofs.Table.{every, at}
use Rattle.rows.specs.Inside.{entries}
use Rattle.rows.proofs.ByProtocol.{Search}
use Rattle.elements.specs.declared.Field.{Field}
use Rattle.messages.specs.Forms.{Form, form, form_in}
use Rattle.messages.specs.declared.forms.Form.{Form as Listed}
use Rattle.messages.specs.Inside.{all_forms, form_count, form_at, meant, most_fields}

-- no form has more fields than columns for them
few : ℕ → Form → Bool
few i f = leb (length f.fields) most_fields

all_few : T (every (form 0 []) few 0 all_forms)
unfolding few entries
all_few = tt

pub at_most : (i : ℕ) → i < form_count → length (form_at i).fields ≤ most_fields
unfolding few
at_most i h = leb→le (length (form_at i).fields) most_fields (at (form 0 []) few all_forms all_few i h)

-- a table of the forms, as the code has it, has each form at its place
module _ (l : List Listed) (d : Listed) (i : ℕ) (h : i < length l) (same : lists.map meant l ≡ all_forms) where
  pub form_is : meant (get_or l i d) ≡ form_at i
  form_is = sym (get_or-map meant l i d (form 0 []) h) ∙ ap (λ (fs : List Form). get_or fs i (form 0 [])) same

-- the search along the forms
module _ (k : ℕ) where
  pub each_form : (f : Form) (fs : List Form) → form_in k (f ∷ fs) ≡ cond (eqb f.kind k) (Some f.fields) (form_in k fs)
  unfolding form_in
  each_form f fs = refl

  abbrev pub finding : Search Form (Option (List Field))
  finding = record { past = form 0 []; test = λ f. eqb f.kind k; said = λ f. Some f.fields; along = form_in k; each = each_form }
