-- Each line that the grammar makes is sound: its steps, those that they queue, and those of a listener.
use Rattle.std.proofs.Common.{◌≡◌, ◌≢◌, ◌≤◌, refl, ap, subst, ℕ, chars, List, [], ◌∷◌, Bool, true, false, ◌&&◌, leb, IsTrue, All, codes, if◌then◌else◌, Option, None, Some, option_map, option_and_then, is_some, Result, Ok, Err}
use Rattle.std.specs.Option.{option_zip}
use Rattle.std.specs.Result.{result_ok}
use Rattle.std.specs.Str.{bytes_eq}
use Rattle.std.proofs.lemmas.Bool.{leb-true}
use Rattle.std.proofs.lemmas.List.Elements.{All-nil, All-cons}
use Rattle.serde_json.specs.Data.{Data, array, object, Items, no_items, item, Members, no_members, member}
use Rattle.serde_json.specs.Find.{as_bool, as_null, as_object, as_str, get}
use Rattle.lx_node.specs.declared.kind.Kind.{Kind}
use Rattle.lx_node.specs.declared.kind.Kind.TheVariants as kind
use Rattle.lx_node.specs.declared.fields.Fields.{Fields}
use Rattle.lx_node.specs.Kinds.{is_possible}
use Rattle.lx_node.specs.OfKind.{IsOfKind}
use Rattle.lx_step.specs.declared.line.Form.{Form}
use Rattle.lx_step.specs.declared.line.Form.TheVariants.{Flush, Dispatch, Rule, Listener as Listens, Show}
use Rattle.lx_step.specs.declared.member.Member.{Member}
use Rattle.lx_step.specs.declared.member.Member.TheVariants.{Other}
use Rattle.lx_step.specs.declared.reference.Reference.{Reference}
use Rattle.lx_step.specs.declared.step.Step.{Step}
use Rattle.lx_step.specs.declared.step.Step.TheVariants as step
use Rattle.lx_step.specs.Patches.{is_in_range, IsInRange}
use Rattle.lx_step.specs.Sound.{IsSound, IsSoundScript, IsSoundListener, IsSoundForm}
use Rattle.lx_step.specs.Script.{Script}
use Rattle.lx_step.specs.Spelled.{with_first}
use Rattle.lx_step.specs.declared.listener.Listener.{Listener}
use Rattle.lx_step.proofs.Sounds.{script_with}
use Rattle.lx_trees.specs.Trees.{nil}
use Rattle.lx_fields.specs.declared.words.Name.{Name}
use Rattle.lx_fields.specs.declared.words.Name.TheVariants as name
use Rattle.lx_script.specs.declared.words.Verb.{Verb}
use Rattle.lx_script.specs.declared.words.Verb.TheVariants as verb
use Rattle.lx_fields.specs.Documents.{document_fields}
use Rattle.lx_script.specs.Commands.{built_in_name, command_with, command_in, command_of, payload_in}
use Rattle.lx_script.specs.Grammar.{update_with, update_of, flush_told, flush_of, dispatch_form_of, rule_form_of, listener_form_of, show_of, clear_of, clearings, form_of}
use Rattle.lx_script.specs.Listeners.{listener_of, listener_with, when_in}
use Rattle.lx_script.specs.Patches.{patch_member, patch_members, patch_of}
use Rattle.lx_script.specs.NewNodes.{or_default, kind_with, may_all_be_given, members_in, new_fields}
use Rattle.lx_script.specs.References.{reference_of, selection_of}
use Rattle.lx_script.specs.Rules.{rule_of}
use Rattle.lx_script.specs.Steps.{fields_in, new_in, new_with, new_of, set_of, patch_from, one_node, two_nodes, step_for, step_of, queued_in, script_in, script_from, truth_in}
use Rattle.lx_fields.specs.Values.{word_in, named, string_of, whole_of, number_within, has_only, required, optional, first_member, list_of}
use Rattle.lx_fields.specs.Words.{kind_in, levels, list_types, made_kinds, names}
use Rattle.lx_script.specs.Words.{kind_named, questions, verbs}
use Rattle.lx_fields.proofs.Sound.{EachRow, rows_tested, kind_tested, mapped, either, chained, tested, named_holds, up_to, settable-ranged, document_fields_of_kind}

-- ---- what two options hold, and what a result holds

zipped : {A B : Type 0} (o : Option A) (p : Option B) (both : A × B) → option_zip o p ≡ Some both → (o ≡ Some both.0) × (p ≡ Some both.1)
zipped None p both is = absurd (cc)
zipped (Some a) None both is = absurd (cc)
zipped {A = A} {B = B} (Some a) (Some b) both is =
    let same : ◌≡◌ {A = A × B} (a, b) both = cc in
    let P : A × B → Type 0 = λ q. (Some a ≡ Some q.0) × (Some b ≡ Some q.1) in
    subst P same (refl, refl)

of_ok : {A E : Type 0} (result : Result A E) (a : A) → result_ok result ≡ Some a → result ≡ Ok a
of_ok (Ok b) a is = let same : b ≡ a = cc in ap (λ x. Ok x) same
of_ok (Err e) a is = absurd (cc)

-- ---- patches

member_ranged : (found : Option Name) (text : List ℕ) (d : Data) (m : Member) → patch_member found text d ≡ Some m → IsInRange m
unfolding patch_member is_in_range
member_ranged None text d m is = let same : Other (chars text) ≡ m = cc in subst IsInRange same refl
member_ranged (Some name.Tag) text d m is = mapped IsInRange (λ level. Other (chars text)) (named levels d) (λ level at. refl) m is
member_ranged (Some name.ListType) text d m is = mapped IsInRange (λ type. Other (chars text)) (named list_types d) (λ type at. refl) m is
member_ranged (Some name.Value) text d m is = mapped IsInRange (λ value. Other (chars text)) (number_within 0 1200000 d) (λ value at. refl) m is
member_ranged (Some known) text d m is = settable-ranged known d m is

members_ranged : (members : Members) (made : List Member) → patch_members members ≡ Some made → All IsInRange made
members_ranged no_members made is = let same : [] ≡ made = cc in subst (All IsInRange) same (All-nil IsInRange)
members_ranged (member text d rest) made is =
    let one = patch_member (word_in names text) text d in
    mapped (All IsInRange) (λ p. p.0 ∷ p.1) (option_zip one (patch_members rest))
    (λ p at. All-cons IsInRange p.0 p.1 (member_ranged (word_in names text) text d p.0 (zipped one (patch_members rest) p at).0)
    (members_ranged rest p.1 (zipped one (patch_members rest) p at).1))
    made is

patch_ranged : (d : Data) (made : List Member) → patch_of d ≡ Some made → All IsInRange made
patch_ranged d made is = chained (All IsInRange) patch_members (as_object d) (λ members at. members_ranged members) made is

-- ---- kinds

abbrev IsNewKind : Kind → Type 0
IsNewKind of = IsTrue (is_possible of) × (of ≢ kind.Root)

-- whether a node can be of the kind and it isn't the root's
abbrev is_new : Kind → Bool
is_new kind.Root = false
is_new of = is_possible of

new_kind : (of : Kind) → is_new of ≡ true → IsNewKind of
unfolding is_possible
new_kind kind.Root is = absurd (cc)
new_kind _ is = (is, λ e. cc)

named_is_new : (text : List ℕ) (of : Kind) → kind_in made_kinds text ≡ Some of → IsNewKind of
unfolding is_possible
named_is_new text of is = new_kind of (kind_tested is_new made_kinds refl text of is)

made_is_new : (d : Data) (of : Kind) → kind_named d ≡ Some of → IsNewKind of
made_is_new d of is = chained IsNewKind (kind_in made_kinds) (as_str d) (λ text at. named_is_new text) of is

IsLevel : ℕ → Type 0
IsLevel level = IsTrue (leb 1 level && leb level 6)

each_level : EachRow IsLevel levels
unfolding IsLevel
each_level = rows_tested (λ level. leb 1 level && leb level 6) levels refl

default_holds : {A : Type 0} (P : A → Type 0) (default : A) (reads : Data → Option A) → P default → ((d : Data) (a : A) → reads d ≡ Some a → P a)
    → (o : Option Data) (a : A) → or_default default reads o ≡ Some a → P a
default_holds P default reads of holds None a is = let same : default ≡ a = cc in subst P same of
default_holds P default reads of holds (Some d) a is = here (is_some (as_null d)) is
  where
    here : (test : Bool) → (if test then Some default else reads d) ≡ Some a → P a
    here true is = let same : default ≡ a = cc in subst P same of
    here false is = holds d a is

heading_level : (level : ℕ) → IsNewKind (kind.Heading level) → IsLevel level
unfolding is_possible IsLevel
heading_level level of = of.0

level_heading : (level : ℕ) → IsLevel level → IsNewKind (kind.Heading level)
unfolding is_possible IsLevel
level_heading level of = (of, λ e. cc)

kind_with_new : (old : Kind) (d : Data) (new : Kind) → IsNewKind old → kind_with old d ≡ Some new → IsNewKind new
unfolding kind_with is_possible
kind_with_new (kind.Heading level) d new of is =
    let found = or_default level (named levels) (get (codes "tag") d) in
    mapped IsNewKind (λ level. kind.Heading level) found
    (λ l at. level_heading l
    (default_holds IsLevel level (named levels) (heading_level level of) (named_holds IsLevel levels each_level) (get (codes "tag") d) l at)) new is
kind_with_new (kind.List type) d new of is =
    mapped IsNewKind (λ type. kind.List type) (or_default type (named list_types) (get (codes "listType") d)) (λ t at. (refl, λ e. cc)) new is
kind_with_new old d new of is = let same : old ≡ new = cc in subst IsNewKind same of

-- ---- steps

new_fields_of_kind : (of : Kind) (d : Data) (fields : Fields) → IsTrue (is_possible of) → new_fields of d ≡ Some fields → IsOfKind of fields
unfolding new_fields
new_fields_of_kind of d fields possible is =
    tested (IsOfKind of) (may_all_be_given of (members_in d)) (result_ok (document_fields of d))
    (λ made at. document_fields_of_kind of d made possible (of_ok (document_fields of d) made at)) fields is

new_step_sound : (of : Kind) (d : Data) (name : Option (List ℕ)) (s : Step) → IsNewKind of → new_in of d name ≡ Some s → IsSound s
new_step_sound of d name s new is =
    mapped IsSound (λ fields. step.New of fields name) (new_fields of d)
    (λ fields at. record { other = new.1; of_kind = new_fields_of_kind of d fields new.0 at }) s is

new_with_sound : (of : Kind) (d : Data) (name : Option (Option (List ℕ))) (s : Step) → IsNewKind of → new_with of d name ≡ Some s → IsSound s
new_with_sound of d name s new is =
    chained IsSound (λ p. new_in p.0 d p.1) (option_zip (kind_with of d) name)
    (λ p at s made. new_step_sound p.0 d p.1 s (kind_with_new of d p.0 new (zipped (kind_with of d) name p at).0) made) s is

new_of_sound : (d : Data) (s : Step) → new_of d ≡ Some s → IsSound s
new_of_sound d s is =
    let type = required kind_named (codes "new") d in
    let given = fields_in (get (codes "fields") d) in
    tested IsSound (has_only (codes "new" ∷ codes "fields" ∷ codes "as" ∷ []) d) _
    (chained IsSound (λ p. new_with p.0 p.1 (optional string_of (codes "as") d)) (option_zip type given)
    (λ p at s made. new_with_sound p.0 p.1 (optional string_of (codes "as") d) s
    (chained IsNewKind kind_named (get (codes "new") d) (λ e there. made_is_new e) p.0 (zipped type given p at).0) made))
    s is

set_of_sound : (d : Data) (s : Step) → set_of d ≡ Some s → IsSound s
set_of_sound d s is =
    let node = required reference_of (codes "set") d in
    let patch = required patch_of (codes "fields") d in
    tested IsSound (has_only (codes "set" ∷ codes "fields" ∷ []) d) _
    (mapped IsSound (λ p. step.Set p.0 (patch_from p.1)) (option_zip node patch)
    (λ p at. chained (All IsInRange) patch_of (get (codes "fields") d) (λ e there. patch_ranged e) p.1 (zipped node patch p at).1))
    s is

-- other steps are sound whatever they hold
any : {A : Type 0} (test : Bool) (f : A → Step) → ((a : A) → IsSound (f a)) → (o : Option A) (s : Step) → (if test then option_map f o else None) ≡ Some s
    → IsSound s
any test f sound o s is = tested IsSound test (option_map f o) (mapped IsSound f o (λ a at. sound a)) s is

any_node : (f : Reference → Step) → ((node : Reference) → IsSound (f node)) → (name : List ℕ) (d : Data) (s : Step) → option_map f (one_node name d) ≡ Some s
    → IsSound s
any_node f sound name d s is = mapped IsSound f (one_node name d) (λ a at. sound a) s is

any_nodes : (f : Reference × Reference → Step) → ((p : Reference × Reference) → IsSound (f p)) → (first second : List ℕ) (d : Data) (s : Step)
    → option_map f (two_nodes first second d) ≡ Some s → IsSound s
any_nodes f sound first second d s is = mapped IsSound f (two_nodes first second d) (λ a at. sound a) s is

one_of_two : {A : Type 0} {P : Type 0} (test : Bool) (first second : Option A) (a : A) → (first ≡ Some a → P) → (second ≡ Some a → P)
    → (if test then first else second) ≡ Some a → P
one_of_two true first second a here there is = here is
one_of_two false first second a here there is = there is

step_for_sound : (inside : Bool) (word : Verb) (d : Data) (queued : Option Script) (s : Step)
    → ((script : Script) → queued ≡ Some script → IsSoundScript script) → step_for inside word d queued ≡ Some s → IsSound s
unfolding step_for
step_for_sound inside verb.Append d queued s below is = any _ (λ text. step.Append text) (λ text. tt) (required string_of (codes "append") d) s is
step_for_sound inside verb.New d queued s below is = new_of_sound d s is
step_for_sound inside verb.Put d queued s below is =
    any _ (λ p. step.Put p.0.0 p.0.1 p.1) (λ p. tt)
    (option_zip (option_zip (required reference_of (codes "put") d) (required reference_of (codes "into") d)) (optional whole_of (codes "at") d)) s is
step_for_sound inside verb.Remove d queued s below is = any_node (λ node. step.Remove node) (λ node. tt) (codes "remove") d s is
step_for_sound inside verb.Replace d queued s below is =
    any _ (λ p. step.Replace p.0.0 p.0.1 p.1) (λ p. tt)
    (option_zip (option_zip (required reference_of (codes "replace") d) (required reference_of (codes "with") d)) (truth_in (get (codes "keep") d))) s is
step_for_sound inside verb.Set d queued s below is = set_of_sound d s is
step_for_sound inside verb.Mark d queued s below is = any_node (λ node. step.Mark node) (λ node. tt) (codes "mark") d s is
step_for_sound inside verb.Split d queued s below is =
    any _ (λ p. step.Split p.0.0 p.0.1 p.1) (λ p. tt)
    (option_zip (option_zip (required reference_of (codes "split") d) (required (list_of whole_of) (codes "at") d)) (optional string_of (codes "as") d)) s
    is
step_for_sound inside verb.Join d queued s below is = any_nodes (λ p. step.Join p.0 p.1) (λ p. tt) (codes "join") (codes "with") d s is
step_for_sound inside verb.Wrap d queued s below is = any_nodes (λ p. step.Wrap p.0 p.1) (λ p. tt) (codes "wrap") (codes "in") d s is
step_for_sound inside verb.Unwrap d queued s below is = any_node (λ node. step.Unwrap node) (λ node. tt) (codes "unwrap") d s is
step_for_sound inside verb.Children d queued s below is = any_nodes (λ p. step.Children p.0 p.1) (λ p. tt) (codes "children") (codes "into") d s is
step_for_sound inside verb.Select d queued s below is =
    any _ (λ selection. step.Select selection) (λ selection. tt) (required selection_of (codes "select") d) s is
step_for_sound inside verb.Do d queued s below is =
    any _ (λ p. step.Do (command_with p.0 p.1)) (λ p. tt)
    (option_zip (option_and_then built_in_name (required string_of (codes "do") d)) (payload_in inside (get (codes "payload") d))) s is
step_for_sound inside verb.Dispatch d queued s below is = mapped IsSound (λ command. step.Dispatch command) (command_of inside d) (λ command at. tt) s is
step_for_sound inside verb.Later d queued s below is =
    tested IsSound (has_only (codes "later" ∷ []) d) (option_map (λ script. step.Later script) queued)
    (mapped IsSound (λ script. step.Later script) queued below) s is

mutual
  unfolding step_of queued_in script_in script_from

  step_of_sound : (inside : Bool) (d : Data) (s : Step) → step_of inside d ≡ Some s → IsSound s
  step_of_sound inside (object ms) s is =
      chained IsSound (λ word. step_for inside word (object ms) (queued_in inside ms)) (first_member verbs (object ms))
      (λ word at s made. step_for_sound inside word (object ms) (queued_in inside ms) s (queued_in_sound inside ms) made) s is
  step_of_sound inside _ s is = absurd (cc)

  queued_in_sound : (inside : Bool) (ms : Members) (made : Script) → queued_in inside ms ≡ Some made → IsSoundScript made
  queued_in_sound inside no_members made is = absurd (cc)
  queued_in_sound inside (member name d rest) made is =
      one_of_two (bytes_eq (codes "later") name) (script_in inside d) (queued_in inside rest) made (script_in_sound inside d made)
      (queued_in_sound inside rest made) is

  script_in_sound : (inside : Bool) (d : Data) (made : Script) → script_in inside d ≡ Some made → IsSoundScript made
  script_in_sound inside (array ds) made is = script_from_sound inside ds made is
  script_in_sound inside _ made is = absurd (cc)

  script_from_sound : (inside : Bool) (ds : Items) (made : Script) → script_from inside ds ≡ Some made → IsSoundScript made
  script_from_sound inside no_items made is = let same : nil ≡ made = cc in subst IsSoundScript same tt
  script_from_sound inside (item d ds) made is =
      mapped IsSoundScript (λ p. with_first p.0 p.1) (option_zip (step_of inside d) (script_from inside ds))
      (λ p at. script_with p.0 p.1 (step_of_sound inside d p.0 (zipped (step_of inside d) (script_from inside ds) p at).0)
      (script_from_sound inside ds p.1 (zipped (step_of inside d) (script_from inside ds) p at).1))
      made is

member_script_sound : (inside : Bool) (name : List ℕ) (d : Data) (made : Script) → required (script_in inside) name d ≡ Some made → IsSoundScript made
member_script_sound inside name d made is = chained IsSoundScript (script_in inside) (get name d) (λ e there. script_in_sound inside e) made is

-- ---- lines

update_with_sound : (steps : Script) (deferred : Bool) → IsSoundScript steps → IsSoundForm (update_with steps deferred)
update_with_sound steps true sound = sound
update_with_sound steps false sound = sound

update_of_sound : (d : Data) (form : Form) → update_of d ≡ Some form → IsSoundForm form
update_of_sound d form is =
    let steps = required (script_in false) (codes "update") d in
    let deferred = truth_in (get (codes "defer") d) in
    tested IsSoundForm (has_only (codes "at" ∷ codes "tags" ∷ codes "update" ∷ codes "defer" ∷ []) d) _
    (mapped IsSoundForm (λ p. update_with p.0 p.1) (option_zip steps deferred)
    (λ p at. update_with_sound p.0 p.1 (member_script_sound false (codes "update") d p.0 (zipped steps deferred p at).0)))
    form is

flush_told_sound : (truth : Bool) (form : Form) → flush_told truth ≡ Some form → IsSoundForm form
flush_told_sound true form is = let same : Flush ≡ form = cc in subst IsSoundForm same tt
flush_told_sound false form is = absurd (cc)

flush_of_sound : (d : Data) (form : Form) → flush_of d ≡ Some form → IsSoundForm form
flush_of_sound d form is =
    tested IsSoundForm (has_only (codes "at" ∷ codes "tags" ∷ codes "flush" ∷ []) d) _
    (chained IsSoundForm flush_told (required as_bool (codes "flush") d) (λ truth at. flush_told_sound truth)) form is

dispatch_form_of_sound : (d : Data) (form : Form) → dispatch_form_of d ≡ Some form → IsSoundForm form
dispatch_form_of_sound d form is =
    tested IsSoundForm (has_only (codes "at" ∷ codes "tags" ∷ codes "dispatch" ∷ codes "payload" ∷ []) d)
    (option_map (λ command. Dispatch command) (command_in false d))
    (mapped IsSoundForm (λ command. Dispatch command) (command_in false d) (λ command at. tt)) form is

rule_form_of_sound : (d : Data) (form : Form) → rule_form_of d ≡ Some form → IsSoundForm form
rule_form_of_sound d form is =
    let rule = required rule_of (codes "rule") d in
    tested IsSoundForm (has_only (codes "at" ∷ codes "rule" ∷ []) d) (option_map (λ rule. Rule rule) rule)
    (mapped IsSoundForm (λ rule. Rule rule) rule (λ made at. tt)) form is

priority_within : (d : Data) (priority : ℕ) → required (number_within 0 4) (codes "priority") d ≡ Some priority → priority ≤ 4
priority_within d priority is =
    chained (λ n. n ≤ 4) (number_within 0 4) (get (codes "priority") d) (λ e there n at. leb-true n 4 (up_to 4 e n at)) priority is

listener_of_sound : (d : Data) (l : Listener) → listener_of d ≡ Some l → IsSoundListener l
listener_of_sound d l is =
    let on = required string_of (codes "on") d in
    let priority = required (number_within 0 4) (codes "priority") d in
    let when = when_in (get (codes "when") d) in
    let steps = required (script_in true) (codes "steps") d in
    let handled = required as_bool (codes "handled") d in
    let first = option_zip on priority in
    let second = option_zip when steps in
    tested IsSoundListener (has_only (codes "on" ∷ codes "priority" ∷ codes "when" ∷ codes "steps" ∷ codes "handled" ∷ []) d) _
    (mapped IsSoundListener (λ p. listener_with p.0.0.0 p.0.0.1 p.0.1.0 p.0.1.1 p.1) (option_zip (option_zip first second) handled)
    (λ p at.
    let both = (zipped (option_zip first second) handled p at).0 in
    record {
      priority = priority_within d p.0.0.1 (zipped on priority p.0.0 (zipped first second p.0 both).0).1;
      steps = member_script_sound true (codes "steps") d p.0.1.1 (zipped when steps p.0.1 (zipped first second p.0 both).1).1;
    }))
    l is

listener_form_of_sound : (d : Data) (form : Form) → listener_form_of d ≡ Some form → IsSoundForm form
listener_form_of_sound d form is =
    let listener = required listener_of (codes "listener") d in
    tested IsSoundForm (has_only (codes "at" ∷ codes "listener" ∷ []) d) (option_map (λ listener. Listens listener) listener)
    (mapped IsSoundForm (λ listener. Listens listener) listener
    (chained IsSoundListener listener_of (get (codes "listener") d) (λ e there. listener_of_sound e)))
    form is

show_of_sound : (d : Data) (form : Form) → show_of d ≡ Some form → IsSoundForm form
show_of_sound d form is =
    let shown = required (named questions) (codes "show") d in
    tested IsSoundForm (has_only (codes "at" ∷ codes "show" ∷ []) d) (option_map (λ shown. Show shown) shown)
    (mapped IsSoundForm (λ shown. Show shown) shown (λ made at. tt)) form is

clear_of_sound : (d : Data) (form : Form) → clear_of d ≡ Some form → IsSoundForm form
clear_of_sound d form is =
    tested IsSoundForm (has_only (codes "at" ∷ codes "clear" ∷ []) d) (required (named clearings) (codes "clear") d)
    (chained IsSoundForm (named clearings) (get (codes "clear") d) (λ e there. named_holds IsSoundForm clearings (tt, tt) e)) form is

-- what the grammar makes of a line is sound
pub form_of_sound : (d : Data) (form : Form) → form_of d ≡ Some form → IsSoundForm form
form_of_sound d form is =
    either IsSoundForm (update_of d) _ (update_of_sound d)
    (either IsSoundForm (flush_of d) _ (flush_of_sound d)
    (either IsSoundForm (dispatch_form_of d) _ (dispatch_form_of_sound d)
    (either IsSoundForm (rule_form_of d) _ (rule_form_of_sound d)
    (either IsSoundForm (listener_form_of d) _ (listener_form_of_sound d)
    (either IsSoundForm (show_of d) (clear_of d) (show_of_sound d) (clear_of_sound d)))))) form is
