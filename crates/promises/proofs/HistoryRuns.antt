-- What ties a history to the world that it leaves holds after any calls from open on, if each effect keeps it.
-- Assumes nothing.
use mathlib.Core.Path.{subst}
use mathlib.Core.List.{List, [], ◌∷◌, ◌++◌, append-nil, append_assoc}
use Prim.Native.Nat.{ℕ}
use Rattle.connection.specs.declared.Settings.{Settings}
use Rattle.promises.specs.Calls.{Call, World, step, run, Real, AllReal, Opened, first}
use Rattle.promises.specs.Effects.{Effect, does, Past, did}
use Rattle.promises.proofs.Effects.{Good, good, Leaves, done}
use Rattle.promises.proofs.Reached.{Sound, sound_first, sound_step}

-- of a world with its own settings
module _ (Ties : Settings → Past → World → Type 0)
    (one : (past : Past) (w : World) → Good w → (real : Type 0) (e : Effect) (w' : World) → real → Leaves w real e w'
    → Ties w.connection.settings past w → Ties w.connection.settings (past ++ (e ∷ [])) w') where
  -- from any reached world on
  pub on : (s : Settings) (cs : List Call) (past : Past) (w : World) → AllReal cs → Sound s w → Ties s past w → Ties s (past ++ did w cs) (run w cs)
  unfolding run did AllReal
  on s [] past w a k t = rw append-nil t
  on s (c ∷ cs) past w (b, a) k t =
      let g : Good w = good k.reached in
      let next : Ties s (past ++ (does w c ∷ [])) (step w c).world =
      subst (λ (u : Settings). Ties u past w → Ties u (past ++ (does w c ∷ [])) (step w c).world) k.reached.settings (one past w g (Real c) (does w c) (step w c).world b (done w g c).leaves) t in
      rw append_assoc at (on s cs (past ++ (does w c ∷ [])) (step w c).world a (sound_step s w c b k) next)

  -- from open on
  pub along : {s : Settings} {receive send : List ℕ} → Opened s receive send → (cs : List Call) → AllReal cs → Ties s [] (first s receive send)
      → Ties s (did (first s receive send) cs) (run (first s receive send) cs)
  along {s} {receive} {send} o cs a t = on s cs [] (first s receive send) a (sound_first s receive send o) t
