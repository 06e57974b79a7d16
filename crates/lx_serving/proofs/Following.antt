-- A hub that takes an editor's last commit.
use Rattle.std.proofs.Common.{◌≡◌, ◌∙◌, ap, sym, subst, refl, ℕ, List, [], ◌∷◌, codes, Option, None, Some, Ok, Err, arith}
use Rattle.serde_json.specs.Data.{Data}
use Rattle.lx_node.specs.declared.cause.Cause.TheVariants.{BadLine}
use Rattle.lx_node.specs.declared.cause.Fault.{Fault}
use Rattle.lx_node.specs.declared.cause.Fault.TheVariants.{Cause, Memory}
use Rattle.lx_host.specs.declared.op.Op.{Op}
use Rattle.lx_host.specs.Hosts.{HostTree, effect, FitInTurn, Leads}
use Rattle.lx_step.specs.declared.line.Line.{Line}
use Rattle.lx_reconcile.specs.Told.{Told}
use Rattle.lx_script.specs.Grammar.{IsJson, Makes, TellsNoJson}
use Rattle.lx_script.proofs.Reading.{tells_of_json, tells_of_no_json}
use Rattle.lx_editor.specs.Editor.{Editor}
use Rattle.lx_editor.specs.Follows.{AnswersLine, RepliesToLine}
use Rattle.lx_hub.specs.Hub.{Hub, effects, published}
use Rattle.lx_hub.proofs.Following.{leads_there}
use Rattle.lx_serving.specs.Asked.{IsOther, sole_member}
use Rattle.lx_serving.specs.Replies.{hub_after_line}
use Rattle.lx_serving.specs.Served.{AreLevel, AnswersIn, about_views, beside_views, IsFollowedBy, with_hub}
use Rattle.lx_serving.specs.Passing.{IsReplyToFault, IsAhead, AnswersMember, AnswersValue}

-- ---- the batch

-- operations that lead somewhere fit in turn
leads_fit : (ops : List Op) (v w : HostTree) → Leads v ops w → FitInTurn v ops
leads_fit [] v w p = tt
leads_fit (op ∷ ops) v w p = (p.1, leads_fit ops (effect op v) w (subst (λ (t : HostTree). Leads t ops w) p.2 p.3))

-- the last batch is the one that leads from the hub's tip
last_told : (e : Editor) (h : Hub) (batch : Told) → (a : IsAhead e h) → Some batch ≡ e.last → batch ≡ a.told
last_told e h batch a last = let same : Some batch ≡ Some a.told = last ∙ a.last in cc

pub fits_ahead : (e : Editor) (h : Hub) (batch : Told) (ops : List Op) → IsAhead e h → Some batch ≡ e.last → ops ≡ batch.ops → FitInTurn h.tip ops
fits_ahead e h batch ops a last copied =
    subst (λ (l : List Op). FitInTurn h.tip l) (sym (copied ∙ ap (λ (t : Told). t.ops) (last_told e h batch a last)))
    (leads_fit a.told.ops h.tip e.view a.leads)

pub level_ahead : (e : Editor) (h g : Hub) (batch : Told) (ops : List Op) → IsAhead e h → Some batch ≡ e.last → ops ≡ batch.ops → g ≡ published ops h
    → AreLevel e g
level_ahead e h g batch ops a last copied made =
    let same : ops ≡ a.told.ops = copied ∙ ap (λ (t : Told). t.ops) (last_told e h batch a last) in
    record {
      tip = ap (λ (k : Hub). k.tip) made ∙ ap (λ l. effects l h.tip) same ∙ sym (leads_there a.told.ops h.tip e.view a.leads);
      commits = ap (λ (k : Hub). k.commits) made ∙ sym a.number;
    }

-- ---- what follows what

-- a line that leaves the editor leaves the hub
pub followed_still : (e f : Editor) (h g : Hub) → f ≡ e → g ≡ h → IsFollowedBy e f h g
followed_still e f h g same still = record {
  published = λ risen. let stayed : f.commits ≡ e.commits = ap (λ (d : Editor). d.commits) same in absurd (omega arith);
  same = λ stayed. still;
}

-- ---- what was read

-- a line that a value asks for, as bytes of that value
pub answers_line : (old new : Editor) (bytes reply : List ℕ) (value : Data) (line : Line) → IsJson bytes value → Makes value (Ok line)
    → RepliesToLine old line reply new
    → AnswersLine old bytes reply new
unfolding AnswersLine
answers_line old new bytes reply value line is made replies = (Ok line, tells_of_json bytes value (Ok line) is made, replies)

-- a value that asks for nothing
pub answers_refused : (old new : Editor) (bytes text : List ℕ) (value : Data) (fault : Fault) → IsJson bytes value → Makes value (Err fault)
    → IsReplyToFault fault text → new ≡ old → AnswersLine old bytes text new
unfolding AnswersLine
answers_refused old new bytes text value (Cause cause) is made told same = (Err cause, tells_of_json bytes value (Err (Cause cause)) is made, (told, same))
answers_refused old new bytes text value Memory is made told same = absurd told

-- bytes that are no JSON
pub answers_no_json : (old new : Editor) (bytes text : List ℕ) (fault : Fault) → TellsNoJson bytes fault → IsReplyToFault fault text → new ≡ old
    → AnswersLine old bytes text new
unfolding AnswersLine
answers_no_json old new bytes text (Cause cause) refused told same = (Err cause, tells_of_no_json bytes (Cause cause) refused, (told, same))
answers_no_json old new bytes text Memory refused told same = absurd told

-- no line of a layer's own
pub no_json_other : (name bytes text : List ℕ) (fault : Fault) → TellsNoJson bytes fault → IsReplyToFault fault text → IsOther name bytes
no_json_other name bytes text (Cause BadLine) refused told = λ value is. absurd (refused value is)
no_json_other name bytes text (Cause other) refused told = absurd refused
no_json_other name bytes text Memory refused told = absurd told

pub beside_no_json : (old new : Editor) (h g : Hub) (bytes text : List ℕ) (fault : Fault) → TellsNoJson bytes fault → IsReplyToFault fault text → new ≡ old
    → g ≡ h → AnswersIn (with_hub old h) bytes text (with_hub new g)
beside_no_json old new h g bytes text fault refused told same still =
    beside_views old new h g bytes text (no_json_other (codes "hub") bytes text fault refused told)
    (answers_no_json old new bytes text fault refused told same) (followed_still old new h g same still)

-- ---- lines by their values

-- one value is read of bytes
pub one_value : (bytes : List ℕ) (value other : Data) → IsJson bytes value → IsJson bytes other → value ≡ other
one_value bytes value other is also = let same : Some value ≡ Some other = sym is.1 ∙ also.1 in cc

beside_member : (asked : Option Data) (old new : Editor) (h g : Hub) (bytes text : List ℕ) (value : Data) → IsJson bytes value
    → sole_member (codes "hub") value ≡ asked
    → AnswersMember asked value old h text new g → AnswersIn (with_hub old h) bytes text (with_hub new g)
beside_member (Some asked) old new h g bytes text value is sole p =
    subst (λ (e : Editor). AnswersIn (with_hub old h) bytes text (with_hub e g)) (sym p.1)
    (subst (λ (k : Hub). AnswersIn (with_hub old h) bytes text (with_hub old k)) (sym p.2)
    (subst (λ (t : List ℕ). AnswersIn (with_hub old h) bytes t (with_hub old (hub_after_line asked h))) (sym p.0)
    (about_views old h bytes asked (record { value = value; json = is; sole = sole }))))
beside_member None old new h g bytes text value is sole p =
    beside_views old new h g bytes text (λ other also. ap (sole_member (codes "hub")) (one_value bytes other value also is) ∙ sole) (p.0 bytes is) p.1

pub beside_value : (old new : Editor) (h g : Hub) (bytes text : List ℕ) (value : Data) → IsJson bytes value → AnswersValue value old h text new g
    → AnswersIn (with_hub old h) bytes text (with_hub new g)
beside_value old new h g bytes text value is p = beside_member (sole_member (codes "hub") value) old new h g bytes text value is refl p
