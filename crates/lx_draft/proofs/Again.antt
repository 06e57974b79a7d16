-- A set of the fields that a node has takes its count, and what it writes, and leaves all else but points in texts as it is.
use Rattle.std.proofs.Common.{◌≡◌, ◌≢◌, ◌∙◌, ℕ, ◌+◌, ◌-◌, ◌^◌, ◌≤◌, ◌<◌, eqb, true, false, Option, None, Some, Ok, min, not, refl, sym, ap, subst, arith, option_map}
use Rattle.std.specs.Prelude.{if◌then◌else◌, is_some, nat_lt}
use Rattle.std.specs.Option.{option_or}
use Rattle.std.proofs.lemmas.Bool.Decides.{eqb_tells, nat_tests}
use Rattle.lx_trees.specs.Spots.{Spot}
use Rattle.lx_node.specs.Kinds.{is_element, is_possible}
use Rattle.lx_node.specs.OfKind.{is_of_kind, fits_kind, is_element_of}
use Rattle.lx_node.specs.Limits.{most_counts, most_written}
use Rattle.lx_node.specs.Strings.{capped, characters_of}
use Rattle.lx_node.specs.declared.kind.Kind.{Kind}
use Rattle.lx_node.specs.declared.kind.Kind.TheVariants as kind
use Rattle.lx_trees.specs.Trees.{nil}
use Rattle.lx_node.specs.declared.node.Node.{Node}
use Rattle.lx_node.specs.declared.fields.TextFields.{TextFields}
use Rattle.lx_node.specs.declared.fields.Fields.{Fields}
use Rattle.lx_node.specs.declared.fields.Fields.TheVariants as fields
use Rattle.lx_node.specs.declared.cause.Cause.{Cause}
use Rattle.lx_node.specs.declared.cause.Cause.TheVariants.{UnknownNode, WrongKind, StepLimit, TooLarge}
use Rattle.lx_node.specs.declared.cause.Limit.TheVariants.{Written}
use Rattle.lx_node.specs.declared.cause.Named.TheVariants.{Key}
use Rattle.lx_node.specs.declared.cause.Fault.{Fault}
use Rattle.lx_node.specs.declared.cause.Fault.TheVariants as fault
use Rattle.lx_node.proofs.Same.{same_fields-Decides}
use Rattle.lx_select.specs.declared.selection.Selection.{Selection}
use Rattle.lx_forest.specs.Forest.{Forest, Label}
use Rattle.lx_forest.specs.Lookups.{has, spot, label_of, kind_of, fields_of, IsForest}
use Rattle.lx_forest.specs.Records.{record_at}
use Rattle.lx_forest.specs.Suited.{is_suited, IsSuited}
use Rattle.lx_forest.proofs.Edits.{is_some-spot}
use Rattle.lx_links.specs.Stands.{node_of}
use Rattle.lx_links.specs.Faults.{wrong_fields, set_fault}
use Rattle.lx_draft.specs.Working.{Working}
use Rattle.lx_draft.specs.Faults.{answer, over_written, over_limits, IsAdmitted, TellsStep}
use Rattle.lx_draft.specs.Steps.{differ, wrote, fields_written, set_points, set_step}
use Rattle.lx_draft.specs.Rewriting.{MaySetAgain, RefusesAgain, StopsAgain}
use Rattle.lx_draft.proofs.Same.{written_again}

-- ---- nothing speaks against the fields that a node has

fields_found : (f : Forest) (k : ℕ) (s : Spot Label) (fields : Fields) → spot f k ≡ Some s → fields_of f k ≡ Some fields → s.label.fields ≡ fields
fields_found f k s fields is own =
    let found : Some s.label.fields ≡ Some fields =
    sym (ap (λ (o : Option (Spot Label)). option_map (λ (l : Label). l.fields) (option_map (λ (t : Spot Label). t.label) o)) is) ∙ own in
    cc

suited_at : (f : Forest) (k : ℕ) (s : Spot Label) → IsSuited f → spot f k ≡ Some s → is_of_kind s.label.kind s.label.fields ≡ true
suited_at f k s h is = sym (ap (λ (o : Option (Spot Label)). is_suited (option_map (λ (t : Spot Label). t.label) o)) is) ∙ h.each k

pub own_fine : (k : ℕ) (fields : Fields) (f : Forest) → IsSuited f → fields_of f k ≡ Some fields → set_fault k fields f ≡ None
own_fine k fields f h own = by_spot (spot f k) refl where
  by_spot : (o : Option (Spot Label)) → spot f k ≡ o → set_fault k fields f ≡ None
  by_spot None is = absurd (grind (arith, is, own))
  by_spot (Some s) is =
      let there : has k f ≡ true = sym (is_some-spot f k) ∙ ap is_some is in
      let of_kind : is_of_kind s.label.kind fields ≡ true =
      subst (λ x. is_of_kind s.label.kind x ≡ true) (fields_found f k s fields is own) (suited_at f k s h is) in
      ap (λ b. option_or (if b then None else Some (UnknownNode (Key k))) (wrong_fields (kind_of f k) fields)) there
      ∙ ap (λ (o : Option (Spot Label)). wrong_fields (option_map (λ (l : Label). l.kind) (option_map (λ (t : Spot Label). t.label) o)) fields) is
      ∙ ap (λ b. if b then None else Some (WrongKind s.label.kind)) of_kind

-- ---- what such a set does

same_again : (fields : Fields) → differ (Some fields) fields ≡ false
same_again fields = ap not ((same_fields-Decides fields fields).1 refl)

-- with its points
pub set_again : (k : ℕ) (fields : Fields) (w : Working) → IsForest w.forest → set_fault k fields w.forest ≡ None → over_limits (characters_of fields) w ≡ None
    → fields_of w.forest k ≡ Some fields
    → set_step k fields w ≡ Ok (record (wrote (characters_of fields) w) { selection = set_points k fields w.selection })
unfolding set_step
set_again k fields w h fine within own =
    let equal : differ (fields_of w.forest k) fields ≡ false = ap (λ o. differ o fields) own ∙ same_again fields in
    let made : Working = fields_written k fields (characters_of fields) (set_points k fields) w in
    ap (λ o. answer (option_or o (over_limits (characters_of fields) w)) made) fine
    ∙ ap (λ o. answer o made) within
    ∙ ap (λ (v : Working). Ok (record v { selection = set_points k fields w.selection })) (written_again k fields (characters_of fields) w h fine equal)

-- an element has no text in which a point could lie
no_text : (kind : Kind) (text : TextFields) → is_element kind ≡ true → is_of_kind kind (fields.Text text) ≡ false
unfolding is_element is_of_kind fits_kind is_element_of is_possible
no_text kind.Root text e = refl
no_text kind.Paragraph text e = refl
no_text (kind.Heading level) text e = grind arith
no_text kind.Quote text e = refl
no_text (kind.List type) text e = refl
no_text kind.Item text e = refl
no_text kind.Link text e = refl
no_text kind.Table text e = refl
no_text kind.Row text e = refl
no_text kind.Cell text e = refl
no_text kind.Text text e = absurd (cc)
no_text kind.Tab text e = absurd (cc)
no_text kind.Break text e = absurd (cc)
no_text kind.Rule text e = absurd (cc)
no_text kind.Embed text e = absurd (cc)

element_points : (k : ℕ) (kind : Kind) (fields : Fields) (s : Selection) → is_element kind ≡ true → is_of_kind kind fields ≡ true → set_points k fields s ≡ s
element_points k kind (fields.Element element) s e h = refl
element_points k kind (fields.Embed source) s e h = refl
element_points k kind fields.Bare s e h = refl
element_points k kind (fields.Text text) s e h = let none = no_text kind text e in absurd (cc)

-- a count and so many scalar values are left
pub within_limits : (more : ℕ) (w : Working) → w.counted < most_counts → w.written + more ≤ most_written → over_limits more w ≡ None
unfolding capped
within_limits more w counts written =
    let left : eqb w.counted most_counts ≡ false = grind (arith, eqb_tells w.counted most_counts) in
    let few : nat_lt most_written (min (w.written + more) (2 ^ 64 - 1)) ≡ false = grind (arith, nat_tests) in
    ap (λ b. option_or (if b then Some StepLimit else None) (over_written more w)) left
    ∙ ap (λ b. if b then Some (TooLarge Written (min (w.written + more) (2 ^ 64 - 1))) else None) few

-- an element that gets the fields that it has
pub set_again-element : (k : ℕ) (l : Label) (w : Working) → IsForest w.forest → IsSuited w.forest → label_of w.forest k ≡ Some l → is_element l.kind ≡ true
    → w.counted < most_counts → w.written + characters_of l.fields ≤ most_written → set_step k l.fields w ≡ Ok (wrote (characters_of l.fields) w)
set_again-element k l w h suited is element counts written =
    let own : fields_of w.forest k ≡ Some l.fields = ap (option_map (λ (l : Label). l.fields)) is in
    let of_kind : is_of_kind l.kind l.fields ≡ true = sym (ap is_suited is) ∙ suited.each k in
    set_again k l.fields w h (own_fine k l.fields w.forest suited own) (within_limits (characters_of l.fields) w counts written) own
    ∙ ap (λ s. Ok (record (wrote (characters_of l.fields) w) { selection = s })) (element_points k l.kind l.fields w.selection element of_kind)

-- ---- what the calls of a draft show of it

fields_told : (f : Forest) (k : ℕ) (n : Node) → Some n ≡ option_map node_of (record_at f k) → fields_of f k ≡ Some n.fields
fields_told f k n e = by_spot (spot f k) refl where
  by_spot : (o : Option (Spot Label)) → spot f k ≡ o → fields_of f k ≡ Some n.fields
  by_spot None is = absurd (grind (arith, is, e))
  by_spot (Some s) is = grind (arith, is, e)

-- a node was found, and its fields are admitted
pub may_again : (more k : ℕ) (n : Node) (f : Forest) (w : Working) → f ≡ w.forest → IsForest w.forest → IsSuited f → Some n ≡ option_map node_of (record_at f k)
    → IsAdmitted more (characters_of n.fields) w → MaySetAgain more k w
may_again more k n f w same h suited told admitted =
    let own : fields_of w.forest k ≡ Some n.fields = ap (λ g. fields_of g k) (sym same) ∙ fields_told f k n told in
    record { fields = n.fields; own = own; fine = own_fine k n.fields w.forest (subst IsSuited same suited) own; admitted = admitted; in_order = h }

there_told : (f : Forest) (k : ℕ) (fields : Fields) → fields_of f k ≡ Some fields → has k f ≡ false → ⊥
there_told f k fields own gone = by_spot (spot f k) refl where
  by_spot : (o : Option (Spot Label)) → spot f k ≡ o → ⊥
  by_spot None is = grind (arith, is, own)
  by_spot (Some s) is = grind (arith, is, gone, is_some-spot f k)

-- or they aren't
pub refuses_again : (cause : Cause) (k : ℕ) (n : Node) (f : Forest) (w : Working) → f ≡ w.forest → w.forest ≢ nil → IsSuited f
    → Some n ≡ option_map node_of (record_at f k)
    → over_limits (characters_of n.fields) w ≡ Some cause → RefusesAgain cause k w
refuses_again cause k n f w same lives suited told refused =
    let own : fields_of w.forest k ≡ Some n.fields = ap (λ g. fields_of g k) (sym same) ∙ fields_told f k n told in
    record { lives = lives; there = there own; gone = λ gone. absurd (there_told w.forest k n.fields own gone) } where
      there : fields_of w.forest k ≡ Some n.fields → (fields : Fields) → fields_of w.forest k ≡ Some fields
          → option_or (set_fault k fields w.forest) (over_limits (characters_of fields) w) ≡ Some cause
      there own fields is =
          let fine : set_fault k fields w.forest ≡ None = own_fine k fields w.forest (subst IsSuited same suited) is in
          let one : n.fields ≡ fields = let both : Some n.fields ≡ Some fields = sym own ∙ is in cc in
          ap (λ o. option_or o (over_limits (characters_of fields) w)) fine ∙ subst (λ x. over_limits (characters_of x) w ≡ Some cause) one refused

-- the fields that were found are the only ones
pub again_told : (more k : ℕ) (w u v : Working) (fields : Fields) → MaySetAgain more k w → u ≡ wrote more w
    → ((own : Fields) → fields_of u.forest k ≡ Some own → v ≡ record u { selection = set_points k own u.selection })
    → fields_of w.forest k ≡ Some fields → set_step k fields w ≡ Ok v
again_told more k w u v fields may noted kept own =
    let same : may.fields ≡ fields = let both : Some may.fields ≡ Some fields = sym may.own ∙ own in cc in
    let fine : set_fault k fields w.forest ≡ None = subst (λ x. set_fault k x w.forest ≡ None) same may.fine in
    let admitted : IsAdmitted more (characters_of fields) w = subst (λ x. IsAdmitted more (characters_of x) w) same may.admitted in
    let made : fields_of w.forest k ≡ Some fields → v ≡ record (wrote more w) { selection = set_points k fields w.selection } =
    subst (λ (u : Working). fields_of u.forest k ≡ Some fields → v ≡ record u { selection = set_points k fields u.selection }) noted (kept fields) in
    set_again k fields w may.in_order fine admitted.allowed own
    ∙ ap (λ n. Ok (record (wrote n w) { selection = set_points k fields w.selection })) (sym admitted.same)
    ∙ ap Ok (sym (made own))

pub refused_told : (e : Fault) (k : ℕ) (w : Working) (fields : Fields) → StopsAgain e k w → fields_of w.forest k ≡ Some fields
    → TellsStep e (set_step k fields w)
unfolding set_step
refused_told (fault.Cause cause) k w fields h own =
    ap (λ o. answer o (fields_written k fields (characters_of fields) (set_points k fields) w)) (h.there fields own)
refused_told fault.Memory k w fields h own = tt

pub gone_told : (e : Fault) (k : ℕ) (w : Working) (fields : Fields) → StopsAgain e k w → has k w.forest ≡ false → TellsStep e (set_step k fields w)
unfolding set_step
gone_told (fault.Cause cause) k w fields h gone =
    ap (λ o. answer (option_or (option_or o (wrong_fields (kind_of w.forest k) fields)) (over_limits (characters_of fields) w))
    (fields_written k fields (characters_of fields) (set_points k fields) w)) (h.gone gone)
gone_told fault.Memory k w fields h gone = tt
