-- An editor with nothing beside it answers as it does alone; and what a new one has spent.
use Rattle.std.proofs.Common.{◌≡◌, ap, sym, subst, refl, ℕ, ◌+◌, List, [], ◌∷◌}
use Rattle.lx_serving.specs.declared.setup.Setup.{Setup}
use Rattle.lx_serving.specs.declared.setup.Beside.{Beside}
use Rattle.lx_serving.specs.declared.setup.Beside.TheVariants as beside
use Rattle.lx_editor.specs.Editor.{Editor}
use Rattle.lx_editor.specs.Follows.{AnswersLine, Follows}
use Rattle.lx_serving.specs.declared.layer.Layer.{Layer}
use Rattle.lx_serving.specs.declared.layer.Layer.TheVariants as layer
use Rattle.lx_serving.specs.Served.{Served, with_nothing, new_layer, new_served, AnswersIn, by_editor, about_views, beside_views, about_outline, beside_outline, FollowsIn, FollowsInTo, made_in, spent}

-- ---- nothing beside the editor

-- an answer where nothing is beside the editor
record IsPlainly (old : Editor) (line bytes : List ℕ) (new : Served) : Type 0 where
  editor : Editor
  made : new ≡ with_nothing editor
  answers : AnswersLine old line bytes editor

plainly : (s t : Served) (line bytes : List ℕ) → AnswersIn s line bytes t → s.layer ≡ layer.Plain → IsPlainly s.editor line bytes t
plainly _ _ _ _ (by_editor old new line bytes answers) is = record { editor = new; made = refl; answers = answers }
plainly _ _ _ _ (about_views e h line asked own) is = absurd (cc)
plainly _ _ _ _ (beside_views old new h g line bytes other answers followed) is = absurd (cc)
plainly _ _ _ _ (about_outline e o line asked own) is = absurd (cc)
plainly _ _ _ _ (beside_outline old new o p line bytes other answers noted) is = absurd (cc)

follows_to : (e : Editor) (lines : List (List ℕ)) (bytes : List ℕ) (t : Served) → FollowsInTo (with_nothing e) lines bytes t → Follows e lines bytes
follows_to e [] bytes t p = (e, (p.0, refl))
follows_to e (line ∷ lines) bytes t p =
    let first = plainly (with_nothing e) p.2 line p.0 p.3 refl in
    let rest = follows_to first.editor lines p.1 t (subst (λ (s : Served). FollowsInTo s lines p.1 t) first.made p.5) in
    (rest.0, (p.0, p.1, first.editor, first.answers, p.4, rest.1))

pub follows_plain : (e : Editor) (lines : List (List ℕ)) (bytes : List ℕ) → FollowsIn (with_nothing e) lines bytes → Follows e lines bytes
follows_plain e lines bytes p = follows_to e lines bytes p.0 p.1

abbrev pub served : Editor → Layer → Served
served e l = record { editor = e; layer = l }

pub answered_plain : (old new : Editor) (l : Layer) (line bytes : List ℕ) → l ≡ layer.Plain → AnswersLine old line bytes new
    → AnswersIn (served old l) line bytes (served new l)
answered_plain old new l line bytes is answers =
    subst (λ (k : Layer). AnswersIn (served old k) line bytes (served new k)) (sym is) (by_editor old new line bytes answers)

-- ---- what is spent

none_made : (b : Beside) → made_in (new_layer b) ≡ 0
none_made beside.Nothing = refl
none_made beside.Hub = refl
none_made beside.Outline = refl

pub spent_new : (setup : Setup) → spent (new_served setup) ≡ 0
spent_new setup = ap (λ n. 0 + n) (none_made setup.beside)
