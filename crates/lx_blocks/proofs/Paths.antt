-- What holds of each step of a draft, and of one after another, holds of the forms in which commands are made of steps. All of
-- them may put any key.
use Rattle.std.proofs.Common.{◌≡◌, ℕ, Bool, true, false, cond, List, Option, None, Some, Result, Ok, Err, refl, subst}
use Rattle.lx_node.specs.declared.cause.Cause.{Cause}
use Rattle.lx_node.specs.declared.cause.Point.{Point}
use Rattle.lx_select.specs.declared.selection.Selection.{Selection}
use Rattle.lx_select.specs.declared.selection.Selection.TheVariants.{Range}
use Rattle.lx_draft.specs.Working.{Working}
use Rattle.lx_draft.specs.Selecting.{select_fault}
use Rattle.lx_draft.specs.Faults.{answer, after}
use Rattle.lx_draft.specs.Steps.{select_step}
use Rattle.lx_edit.specs.Texts.{split_step}
use Rattle.lx_edit.proofs.Paths.{IsPath, Leads, self, then, ok, points, split_path}
use Rattle.lx_blocks.specs.Ranges.{caret_at, at_anchor_of, at_anchor}

-- a relation of a draft to what it became, such as those of edits, whatever is put
abbrev pub IsWay : (Working → Type 0) → (Working → Working → Type 0) → Type 0
IsWay D R = IsPath D R (λ k. Unit {0})

-- a step whose answer holds a draft: every draft that it leaves is such
abbrev pub LeadsTo : (A : Type 0) → (Working → Type 0) → (Working → Working → Type 0) → (A → Working) → (Working → Result A Cause) → Type 0
LeadsTo A D R draft step = (w : Working) (a : A) → D w → step w ≡ Ok a → R w (draft a)

module _ {D : Working → Type 0} {R : Working → Working → Type 0} (way : IsWay D R) where
  -- ---- forms

  -- nothing is done
  pub stays : Leads D R (λ w. Ok w)
  stays w v r e = ok R w w v (self way w r) e

  -- one of two steps
  pub either : (taken : Bool) (one other : Working → Result Working Cause) → Leads D R one → Leads D R other → Leads D R (λ w. cond taken (one w) (other w))
  either true one other a b w v r e = a w v r e
  either false one other a b w v r e = b w v r e

  -- a step and then another, which goes by what the draft was before
  pub chained : (first : Working → Result Working Cause) (next : Working → Working → Result Working Cause) → Leads D R first
      → ((w : Working) → Leads D R (next w))
      → Leads D R (λ w. after (first w) (next w))
  chained first next a b w v r e = then way w v (first w) (next w) (λ u f. a w u r f) (λ u c f. b w u v (way.ready w u c) f) e

  -- what is read of a draft, and a step that goes by it
  pub by_read : {A : Type 0} (w v : Working) (found : Result A Cause) (next : A → Working → Result Working Cause) → ((a : A) → next a w ≡ Ok v → R w v)
      → after found (λ a. next a w) ≡ Ok v → R w v
  by_read w v (Ok a) next each e = each a e
  by_read w v (Err cause) next each e = absurd (cc)

  -- one such step after another
  pub then_to : {A B : Type 0} (one : A → Working) (two : B → Working) (w : Working) (b : B) (r : Result A Cause) (next : A → Result B Cause)
      → ((a : A) → r ≡ Ok a → R w (one a)) → ((a : A) → D (one a) → next a ≡ Ok b → R (one a) (two b)) → after r next ≡ Ok b → R w (two b)
  then_to one two w b (Ok a) next first second e = let x = first a refl in way.composed w (one a) (two b) x (second a (way.ready w (one a) x) e)
  then_to one two w b (Err cause) next first second e = absurd (cc)

  -- an answer that nothing refuses
  pub ok_to : {A : Type 0} (draft : A → Working) (w : Working) (a b : A) → R w (draft a) → ◌≡◌ {A = Result A Cause} (Ok a) (Ok b) → R w (draft b)
  ok_to draft w a b c e = let is : a ≡ b = cc in subst (λ x. R w (draft x)) is c

  -- ---- points

  -- both points go to a place that is found after a step
  pub placed : (step : Working → Result Working Cause) (there : Working → Point) → Leads D R step
      → Leads D R (λ w. after (step w) (λ v. Ok (caret_at (there v) v)))
  placed step there a w v r e =
      then way w v (step w) (λ u. Ok (caret_at (there u) u)) (λ u f. a w u r f)
      (λ u c f. ok R u (caret_at (there u) u) v (points way (λ p. there u) u (way.ready w u c)) f) e

  -- a step that goes by the anchor and the format
  anchored_of : (s : Selection) (step : Point → ℕ → Working → Result Working Cause) → ((p : Point) (format : ℕ) → Leads D R (step p format))
      → Leads D R (at_anchor_of s step)
  anchored_of (Range a b format) step each w v r e = each a format w v r e
  anchored_of _ step each w v r e = absurd (cc)

  pub anchored : (step : Point → ℕ → Working → Result Working Cause) → ((p : Point) (format : ℕ) → Leads D R (step p format)) → Leads D R (at_anchor step)
  anchored step each w v r e = anchored_of w.selection step each w v r e

  -- a change that may be refused beforehand
  chosen : (w u v : Working) (o : Option Cause) → R w u → answer o u ≡ Ok v → R w v
  chosen w u v None c e = ok R w u v c e
  chosen w u v (Some cause) c e = absurd (cc)

  pub select_path : (selection : Selection) → Leads D R (select_step selection)
  unfolding select_step
  select_path selection w v r e =
      chosen w (record w { selection = selection }) v (select_fault selection w.forest) (way.selected w selection r) e

  -- a text is cut in pieces
  pub splits : (k : ℕ) (offsets : List ℕ) → Leads D R (split_step k offsets)
  splits k offsets w v r e = split_path way k offsets w v r (λ q among. tt) e
