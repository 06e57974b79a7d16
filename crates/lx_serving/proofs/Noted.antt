-- An outline that follows an editor.
use Rattle.std.proofs.Common.{◌≡◌, ◌∙◌, ap, sym, subst, refl, ℕ, List, codes, Option, None, Some, arith}
use Rattle.serde_json.specs.Data.{Data}
use Rattle.lx_node.specs.declared.cause.Fault.{Fault}
use Rattle.lx_script.specs.Grammar.{IsJson, TellsNoJson}
use Rattle.lx_outline.specs.Outline.{IsOutlineOf}
use Rattle.lx_editor.specs.Editor.{Editor}
use Rattle.lx_serving.specs.Asked.{sole_member}
use Rattle.lx_serving.specs.Outlining.{OutlinedView}
use Rattle.lx_serving.specs.Passing.{IsReplyToFault, NotesMember, NotesValue}
use Rattle.lx_serving.specs.Served.{AnswersIn, about_outline, beside_outline, IsNotedBy, with_outline}
use Rattle.lx_serving.proofs.Following.{answers_no_json, no_json_other, one_value}

-- ---- what follows what

-- a line that leaves the editor leaves the outline
pub noted_still : (old new : Editor) (o p : OutlinedView) → new ≡ old → p ≡ o → IsOutlineOf o.outline old.tree → IsNotedBy old new o p
noted_still old new o p same still kept = record {
  kept = subst (λ (e : Editor). IsOutlineOf p.outline e.tree) (sym same) (subst (λ (q : OutlinedView). IsOutlineOf q.outline old.tree) (sym still) kept);
  told = λ risen. let stayed : new.commits ≡ old.commits = ap (λ (e : Editor). e.commits) same in absurd (omega arith);
  same = λ stayed. still;
}

-- ---- lines by their values

pub noted_no_json : (old new : Editor) (o p : OutlinedView) (bytes text : List ℕ) (fault : Fault) → TellsNoJson bytes fault → IsReplyToFault fault text
    → new ≡ old → p ≡ o → IsOutlineOf o.outline old.tree → AnswersIn (with_outline old o) bytes text (with_outline new p)
noted_no_json old new o p bytes text fault refused told same still kept =
    beside_outline old new o p bytes text (no_json_other (codes "ask") bytes text fault refused told)
    (answers_no_json old new bytes text fault refused told same) (noted_still old new o p same still kept)

noted_member : (asked : Option Data) (old new : Editor) (o p : OutlinedView) (bytes text : List ℕ) (value : Data) → IsJson bytes value
    → sole_member (codes "ask") value ≡ asked → NotesMember asked value old o text new p → AnswersIn (with_outline old o) bytes text (with_outline new p)
noted_member (Some asked) old new o p bytes text value is sole q =
    subst (λ (e : Editor). AnswersIn (with_outline old o) bytes text (with_outline e p)) (sym q.1)
    (subst (λ (r : OutlinedView). AnswersIn (with_outline old o) bytes text (with_outline old r)) (sym q.2)
    (subst (λ (t : List ℕ). AnswersIn (with_outline old o) bytes t (with_outline old o)) (sym q.0)
    (about_outline old o bytes asked (record { value = value; json = is; sole = sole }))))
noted_member None old new o p bytes text value is sole q =
    beside_outline old new o p bytes text (λ other also. ap (sole_member (codes "ask")) (one_value bytes other value also is) ∙ sole) (q.0 bytes is) q.1

pub noted_value : (old new : Editor) (o p : OutlinedView) (bytes text : List ℕ) (value : Data) → IsJson bytes value → NotesValue value old o text new p
    → AnswersIn (with_outline old o) bytes text (with_outline new p)
noted_value old new o p bytes text value is q = noted_member (sole_member (codes "ask") value) old new o p bytes text value is refl q
