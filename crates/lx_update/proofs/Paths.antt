-- What holds of each step of a draft, and of one after another, holds of each step of a script.
use Rattle.std.proofs.Common.{◌≡◌, ℕ, List, [], ◌∷◌, Option, None, Some, Result, Ok, Err, refl, subst}
use Rattle.lx_node.specs.declared.kind.Kind.TheVariants.{Text, Paragraph}
use Rattle.lx_node.specs.declared.fields.Fields.{Fields}
use Rattle.lx_node.specs.declared.cause.Cause.{Cause}
use Rattle.lx_node.specs.Plain.{plain_element, plain_text}
use Rattle.lx_select.specs.declared.selection.Selection.{Selection}
use Rattle.lx_step.specs.declared.member.Member.{Member}
use Rattle.lx_step.specs.declared.reference.Reference.{Reference}
use Rattle.lx_step.specs.declared.step.Step.{Step}
use Rattle.lx_step.specs.declared.step.Step.TheVariants as step
use Rattle.lx_forest.specs.Lookups.{label_of, parent_of, size_of}
use Rattle.lx_draft.specs.Working.{Working}
use Rattle.lx_draft.specs.Faults.{after}
use Rattle.lx_draft.specs.Steps.{count_step, new_step, set_step, put_step, mark_step, select_step}
use Rattle.lx_edit.specs.Edits.{remove_step, children_step, replace_step, wrap_step, unwrap_step}
use Rattle.lx_edit.specs.Texts.{split_step, join_step}
use Rattle.lx_edit.proofs.Paths.{IsPath, Leads, self, then, ok, allowed, remove_path, replace_path, wrap_path, unwrap_path, children_path, split_path, join_path}
use Rattle.lx_update.specs.Appending.{appended, text_put, text_step}
use Rattle.lx_update.specs.Naming.{Naming, names_bound}
use Rattle.lx_update.specs.Scripts.{Scripted, scripted, resolved, on_draft, naming, at_node, at_nodes, move_fault, loosened, index_or, script_put_step, repatched, script_set_step, name_of_first, selection_for, effect_of}

-- A relation of a draft to what it became, that holds of each step of drafts and composes. A step may rely on D, which holds
-- again after each.
pub record IsScriptPath (D : Working → Type 0) (R : Working → Working → Type 0) : Type 0 where
  pub path : IsPath D R (λ k. Unit {0})
  pub count : Leads D R count_step
  pub mark : (k : ℕ) → Leads D R (mark_step k)
  pub select : (selection : Selection) → Leads D R (select_step selection)

-- a step of a script whose every result is such
abbrev pub Reaches : (Working → Type 0) → (Working → Working → Type 0) → (Scripted → Result Scripted Cause) → Type 0
Reaches D R step = (s t : Scripted) → D s.draft → step s ≡ Ok t → R s.draft t.draft

-- ---- on what a script has

named_path : (R : Working → Working → Type 0) (s t : Scripted) (r : Result Working Cause) (names : Working → Naming) → ((w : Working) → r ≡ Ok w → R s.draft w)
    → after r (λ w. Ok (scripted w (names w))) ≡ Ok t → R s.draft t.draft
named_path R s t (Ok w) names first e = let is : scripted w (names w) ≡ t = cc in subst (λ (x : Scripted). R s.draft x.draft) is (first w refl)
named_path R s t (Err cause) names first e = absurd (cc)

-- what was looked up before is no matter
pub looked : {A B : Type 0} (T : Type 0) (r : Result A Cause) (next : A → Result B Cause) (t : B) → ((a : A) → next a ≡ Ok t → T) → after r next ≡ Ok t → T
looked T (Ok a) next t each e = each a e
looked T (Err cause) next t each e = absurd (cc)

pub on_draft_path : (D : Working → Type 0) (R : Working → Working → Type 0) (edit : Working → Result Working Cause) → Leads D R edit
    → Reaches D R (on_draft edit)
on_draft_path D R edit leads s t d e = named_path R s t (edit s.draft) (λ w. s.names) (λ w is. leads s.draft w d is) e

naming_path : (D : Working → Type 0) (R : Working → Working → Type 0) (name : Option (List ℕ)) (edit : Working → Result Working Cause) → Leads D R edit
    → Reaches D R (naming name edit)
naming_path D R name edit leads s t d e =
    named_path R s t (edit s.draft) (λ w. names_bound name (Some s.draft.next_key) s.names) (λ w is. leads s.draft w d is) e

at_node_path : (D : Working → Type 0) (R : Working → Working → Type 0) (r : Reference) (edit : ℕ → Working → Result Working Cause)
    → ((k : ℕ) → Leads D R (edit k)) → Reaches D R (at_node r edit)
at_node_path D R r edit leads s t d e =
    looked (R s.draft t.draft) (resolved r s) (λ k. on_draft (edit k) s) t (λ k e. on_draft_path D R (edit k) (leads k) s t d e) e

at_nodes_path : (D : Working → Type 0) (R : Working → Working → Type 0) (r q : Reference) (edit : ℕ → ℕ → Working → Result Working Cause)
    → ((k p : ℕ) → Leads D R (edit k p)) → Reaches D R (at_nodes r q edit)
at_nodes_path D R r q edit leads s t d e =
    looked (R s.draft t.draft) (resolved r s) (λ k. after (resolved q s) (λ p. on_draft (edit k p) s)) t
    (λ k e. looked (R s.draft t.draft) (resolved q s) (λ p. on_draft (edit k p) s) t (λ p e. on_draft_path D R (edit k p) (leads k p) s t d e) e) e

-- ---- append, put and set

text_path : {D : Working → Type 0} {R : Working → Working → Type 0} → IsPath D R (λ k. Unit {0}) → (parent : ℕ) (text : List ℕ)
    → Leads D R (text_step parent text)
text_path path parent text w v d e =
    then path w v (new_step Text (plain_text text) w) (λ u. put_step w.next_key parent 0 u) (λ u e. path.new Text (plain_text text) w u d e)
    (λ u a e. path.put w.next_key parent 0 u v tt (path.ready w u a) e) e

filled_path : {D : Working → Type 0} {R : Working → Working → Type 0} → IsPath D R (λ k. Unit {0}) → (parent : ℕ) (text : List ℕ)
    → Leads D R (text_put parent text)
filled_path {R = R} path parent [] w v d e = ok R w w v (self path w d) e
filled_path path parent (c ∷ text) w v d e = text_path path parent (c ∷ text) w v d e

append_path : {D : Working → Type 0} {R : Working → Working → Type 0} → IsPath D R (λ k. Unit {0}) → (text : List ℕ) → Leads D R (appended text)
unfolding appended
append_path path text w v d e =
    then path w v (new_step Paragraph plain_element w)
    (λ made. after (text_put w.next_key text made) (λ full. put_step w.next_key 0 (size_of full.forest 0) full))
    (λ u e. path.new Paragraph plain_element w u d e)
    (λ u a e. then path u v (text_put w.next_key text u) (λ full. put_step w.next_key 0 (size_of full.forest 0) full)
    (λ x e. filled_path path w.next_key text u x (path.ready w u a) e)
    (λ x b e. path.put w.next_key 0 (size_of x.forest 0) x v tt (path.ready u x b) e) e) e

loosened_path : {D : Working → Type 0} {R : Working → Working → Type 0} → IsPath D R (λ k. Unit {0}) → (p : Option ℕ) (k : ℕ) → Leads D R (loosened p k)
loosened_path {R = R} path None k w v d e = ok R w w v (self path w d) e
loosened_path path (Some p) k w v d e = path.take k w v d e

put_path : {D : Working → Type 0} {R : Working → Working → Type 0} → IsPath D R (λ k. Unit {0}) → (index : Option ℕ) (k p : ℕ)
    → Leads D R (script_put_step k p index)
unfolding script_put_step
put_path {R = R} path index k p w v d e =
    allowed R w v (move_fault k p index w.forest)
    (λ u. after (loosened (parent_of u.forest k) k u) (λ loose. put_step k p (index_or index (size_of loose.forest p)) loose))
    (λ e. then path w v (loosened (parent_of w.forest k) k w) (λ loose. put_step k p (index_or index (size_of loose.forest p)) loose)
    (λ u e. loosened_path path (parent_of w.forest k) k w u d e)
    (λ u a e. path.put k p (index_or index (size_of u.forest p)) u v tt (path.ready w u a) e) e) e

set_path : {D : Working → Type 0} {R : Working → Working → Type 0} → IsPath D R (λ k. Unit {0}) → (members : List Member) (k : ℕ)
    → Leads D R (script_set_step members k)
unfolding script_set_step
set_path {R = R} path members k w v d e = patched (repatched members (label_of w.forest k)) e
  where
    patched : (r : Result Fields Cause) → after r (λ made. set_step k made w) ≡ Ok v → R w v
    patched (Ok made) e = path.set k made w v d e
    patched (Err cause) e = absurd (cc)

-- ---- the steps

pub effect_path : {D : Working → Type 0} {R : Working → Working → Type 0} → IsScriptPath D R → (begun : Step) → Reaches D R (effect_of begun)
effect_path {D = D} {R = R} p (step.Append text) s t d e = on_draft_path D R (appended text) (append_path p.path text) s t d e
effect_path {D = D} {R = R} p (step.New kind fields name) s t d e =
    naming_path D R name (new_step kind fields) (λ w v d e. p.path.new kind fields w v d e) s t d e
effect_path {D = D} {R = R} p (step.Put node into index) s t d e =
    at_nodes_path D R node into (λ k q. script_put_step k q index) (put_path p.path index) s t d e
effect_path {D = D} {R = R} p (step.Remove node) s t d e = at_node_path D R node remove_step (λ k. remove_path p.path k) s t d e
effect_path {D = D} {R = R} p (step.Replace node other keep) s t d e =
    at_nodes_path D R node other (λ k o. replace_step k o keep) (λ k o w v d e. replace_path p.path k o keep w v d tt (λ u put kept c among. tt) e) s t d e
effect_path {D = D} {R = R} p (step.Set node patch) s t d e = at_node_path D R node (script_set_step patch.members) (set_path p.path patch.members) s t d e
effect_path {D = D} {R = R} p (step.Mark node) s t d e = at_node_path D R node mark_step p.mark s t d e
effect_path {D = D} {R = R} p (step.Split node offsets name) s t d e =
    looked (R s.draft t.draft) (resolved node s) (λ k. naming (name_of_first offsets name) (split_step k offsets) s) t
    (λ k e. naming_path D R (name_of_first offsets name) (split_step k offsets) (λ w v d e. split_path p.path k offsets w v d (λ q among. tt) e) s t d e) e
effect_path {D = D} {R = R} p (step.Join node other) s t d e = at_nodes_path D R node other join_step (λ k o. join_path p.path k o) s t d e
effect_path {D = D} {R = R} p (step.Wrap node outer) s t d e = at_nodes_path D R node outer wrap_step (λ k o. wrap_path p.path k o tt tt) s t d e
effect_path {D = D} {R = R} p (step.Unwrap node) s t d e = at_node_path D R node unwrap_step (λ k w v d e. unwrap_path p.path k w v d (λ c among. tt) e) s t d e
effect_path {D = D} {R = R} p (step.Children from into) s t d e =
    at_nodes_path D R from into children_step (λ k o w v d e. children_path p.path k o w v d (λ c among. tt) e) s t d e
effect_path {D = D} {R = R} p (step.Select named) s t d e =
    looked (R s.draft t.draft) (selection_for named s) (λ sel. on_draft (select_step sel) s) t
    (λ sel e. on_draft_path D R (select_step sel) (p.select sel) s t d e) e
effect_path p (step.Do command) s t d e = absurd (cc)
effect_path p (step.Dispatch command) s t d e = absurd (cc)
effect_path p (step.Later script) s t d e = absurd (cc)
