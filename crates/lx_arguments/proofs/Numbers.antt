-- What clap's matches have of the program's numbers, where they come of its command.
use Rattle.std.proofs.Common.{◌≡◌, ◌∙◌, ◌<◌, ◌≤◌, ap, ℕ, Bool, zero, suc, true, false, not, List, [], ◌∷◌, length, map, is_some, if◌then◌else◌, ◌==◌, Option, Some, None, refl, sym, subst, inl, inr, arith, codes}
use Rattle.std.specs.List.{All, slice_index_or}
use Rattle.std.specs.Str.{bytes_eq}
use Rattle.std.specs.Prelude.{find, option_map, slice_get, pos}
use Rattle.std.specs.Borrow.{Bor}
use Rattle.std.proofs.lemmas.Bool.{ne_eqb}
use Rattle.std.proofs.lemmas.Slice.Eq.{bytes_eq-Decides}
use Rattle.std.proofs.lemmas.List.Elements.{All-get_or}
use Rattle.clap.proofs.CallerLemmas.{default_present, entry_by_id, same_rules_by_id}
use Rattle.clap.proofs.WalkLemmas.{both}
use Rattle.clap.specs.Built.{IsAuto, IsParsedFrom, IsPlain, IsPlainArg, SameRules}
use Rattle.clap.specs.Facts.{args_of, groups_of, Entry, EntryPasses, HasId, PassesArg, WantsDefault, least_values, parser_of, parser_of_value}
use Rattle.clap.specs.Matches.{found_of, matched_of, one_text}
use Rattle.clap.specs.Lexer.{without_minus}
use Rattle.clap.specs.Simple.{App, app_of, has_plain_fields}
use Rattle.clap.specs.Texts.{items_of}
use Rattle.clap.specs.Values.{Accepts, IsSignedIn, reading_of}
use Rattle.clap.specs.Walk.{Rule, Text, is_empty, is_free_arg, is_simple_arg, rule_of, texts}
use Rattle.clap.specs.declared.builder.action.ArgAction.TheVariants.{Count, Set}
use Rattle.clap.specs.declared.builder.arg.Arg.{Arg}
use Rattle.clap.specs.declared.builder.command.Command.{Command}
use Rattle.clap.specs.declared.builder.command.Command.TheViews.{out-Command}
use Rattle.clap.specs.declared.builder.value_parser.Reading.TheVariants as reading
use Rattle.clap.specs.declared.builder.value_parser.ValueParser.{ValueParser}
use Rattle.clap.specs.declared.builder.value_parser.ValueParser.TheVariants as vp
use Rattle.clap.specs.declared.parser.matches.ArgMatches.{ArgMatches}
use Rattle.clap.specs.declared.parser.matches.Found.{Found}
use Rattle.clap.specs.declared.parser.matches.MatchedArg.{MatchedArg}
use Rattle.lx_arguments.specs.Arguments.{HasNumber, HasNumbers, MayHaveNumber, delay_rule, generate_rule, hub_rule, lexical_app, most_delay, most_lines, most_seed, outline_rule, seed_rule, view_rule}

abbrev number_parser : ℕ → ℕ → ValueParser
number_parser least most = vp.Signed (pos least) (pos most)

-- an argument that takes one number in these bounds
abbrev IsNumber : ℕ → ℕ → Arg → Type 0
IsNumber least most y =
    (y.action ≡ Some Set) × (y.val_delim ≡ None) × (1 ≤ least_values y) × (y.value_parser ≡ Some (number_parser least most))

-- the arguments with this id are such
abbrev AreNumbers : Text → ℕ → ℕ → Command → Type 0
AreNumbers id least most b = (j : ℕ) (y : Arg) → j < length (args_of b) → slice_index_or (args_of b) j y ≡ y
    → bytes_eq y.id.now id ≡ true → IsNumber least most y

-- ---- one entry

no_group : (b : Command) (e : Entry) (id : Text) → groups_of b ≡ [] → (id ≡ [] → ⊥) → e.0.now ≡ id → EntryPasses b e → e.1.is_group ≡ true → ⊥
no_group b e id none named key pass g = elim (pass.3 g) [
  | inl empty ↦ named (sym key ∙ empty)
  | inr lots ↦
      let bad : 0 < 0 = rw none at lots in
      absurd (omega arith)
]

has_values : (b : Command) (e : Entry) (id : Text) (least most : ℕ) → groups_of b ≡ [] → (id ≡ [] → ⊥) → AreNumbers id least most b
    → e.0.now ≡ id → EntryPasses b e → 0 < length e.1.vals.items
has_values b e id least most none named numbers key pass = elim pass.1 [
  | inl h ↦ absurd (no_group b e id none named key pass h.0)
  | inr (inl v) ↦ v
  | inr (inr (inl h)) ↦
      let any = h.1 in
      let is_set : any.1.action ≡ Some Set = (numbers any.0 any.1 any.2 any.3 (rw key at any.4.0)).0 in
      let bad : Set ≡ Count = rw is_set at any.4.1 in
      cc
  | inr (inr (inr h)) ↦
      let d = numbers h.0 h.1 h.2 h.3 (rw key at h.4.0) in
      elim h.4.1 [
        | inl zero_values ↦
            let one = d.2 in
            absurd (omega arith)
        | inr has ↦
            let bad : false ≡ true = rw d.1 at has in
            cc
      ]
]

is_read : (b : Command) (e : Entry) (id : Text) (least most : ℕ) → groups_of b ≡ [] → (id ≡ [] → ⊥) → AreNumbers id least most b
    → e.0.now ≡ id → EntryPasses b e → e.1.reading ≡ reading.WithoutMinus
is_read b e id least most none named numbers key pass = elim pass.4 [
  | inl g ↦ absurd (no_group b e id none named key pass g)
  | inr any ↦
      let d = numbers any.0 any.1 any.2 any.3 (rw key at any.4.0) in
      let by : parser_of any.1 ≡ number_parser least most = ap parser_of_value d.3 in
      sym any.4.1 ∙ ap reading_of by
]

passed : (b : Command) (id : Text) (least most : ℕ) → AreNumbers id least most b → (v : Bor Text) → PassesArg b id v.now
    → IsSignedIn (pos least) (pos most) v.now
passed b id least most numbers v any =
    let d = numbers any.0 any.1 any.2 any.3 any.4.0 in
    let by : parser_of any.1 ≡ number_parser least most = ap parser_of_value d.3 in
    subst (λ (q : ValueParser). Accepts any.1.ignore_case q v.now) by any.4.1

all_pass : (b : Command) (e : Entry) (id : Text) (least most : ℕ) → groups_of b ≡ [] → (id ≡ [] → ⊥) → AreNumbers id least most b
    → e.0.now ≡ id → EntryPasses b e → All (λ v. IsSignedIn (pos least) (pos most) v.now) e.1.vals.items
all_pass b e id least most none named numbers key pass = elim pass.0 [
  | inl g ↦ absurd (no_group b e id none named key pass g)
  | inr vals ↦ λ k d lt. passed b id least most numbers (slice_index_or e.1.vals.items k d)
      (subst (λ (w : Text). PassesArg b w (slice_index_or e.1.vals.items k d).now) key (vals k d lt))
]

head_read : (least most : ℕ) (vs : List (Bor Text)) → 0 < length vs → All (λ v. IsSignedIn (pos least) (pos most) v.now) vs
    → (t : Text) × (option_map (λ s. without_minus s.now) (slice_get vs 0) ≡ Some (without_minus t)) × IsSignedIn (pos least) (pos most) t
head_read least most [] lt all = absurd (omega arith)
head_read least most (v ∷ vs) lt all =
    (v.now, refl, All-get_or (λ w. IsSignedIn (pos least) (pos most) w.now) (v ∷ vs) 0 v (omega arith) all)

entry_text : (f : Found) (id : Text) (x : MatchedArg) (t : Text) → matched_of f id ≡ Some x → x.reading ≡ reading.WithoutMinus
    → option_map (λ s. without_minus s.now) (slice_get x.vals.items 0) ≡ Some (without_minus t) → one_text f id ≡ Some (without_minus t)
entry_text f id x t found is v = rw (found, is) v

no_entry_text : (f : Found) (id : Text) → matched_of f id ≡ None → one_text f id ≡ None
no_entry_text f id none = rw none refl

-- the entry of an id has a number that its parser took
entry_read : (b : Command) (f : Found) (id : Text) (least most : ℕ) (x : MatchedArg) → groups_of b ≡ [] → (id ≡ [] → ⊥)
    → AreNumbers id least most b → All (EntryPasses b) f.entries.items → matched_of f id ≡ Some x → HasNumber id least most f
entry_read b f id least most x none named numbers all e =
    let got = entry_by_id (EntryPasses b) f.entries.items id x all e in
    let key : got.0.0.now ≡ id = (bytes_eq-Decides _ _).0 got.2 in
    let read = head_read least most got.0.1.vals.items (has_values b got.0 id least most none named numbers key got.3)
    (all_pass b got.0 id least most none named numbers key got.3) in
    let is : x.reading ≡ reading.WithoutMinus =
    ap (λ (y : MatchedArg). y.reading) (sym got.1) ∙ is_read b got.0 id least most none named numbers key got.3 in
    let first : option_map (λ s. without_minus s.now) (slice_get x.vals.items 0) ≡ Some (without_minus read.0) =
    subst (λ (y : MatchedArg). option_map (λ s. without_minus s.now) (slice_get y.vals.items 0) ≡ Some (without_minus read.0)) got.1 read.1 in
    (read.0, entry_text f id x read.0 e is first, read.2)

may_be_read : (b : Command) (f : Found) (id : Text) (least most : ℕ) → groups_of b ≡ [] → (id ≡ [] → ⊥) → AreNumbers id least most b
    → All (EntryPasses b) f.entries.items → MayHaveNumber id least most f
may_be_read b f id least most none named numbers all = go (matched_of f id) refl
  where
    go : (o : Option MatchedArg) → matched_of f id ≡ o → MayHaveNumber id least most f
    go None e = inl (no_entry_text f id e)
    go (Some x) e = inr (entry_read b f id least most x none named numbers all e)

-- ---- the entry of an option with a default

found_in : (xs : List Entry) (id : Text) (i : ℕ) → i < length xs → ((d : Entry) → bytes_eq (slice_index_or xs i d).0.now id ≡ true)
    → is_some (option_map (λ e. e.1) (find (λ e. bytes_eq e.0.now id) xs)) ≡ true
found_in [] id i lt is = absurd (omega arith)
found_in (x ∷ xs) id i lt is = go (bytes_eq x.0.now id) refl i lt is (λ k low at. found_in xs id k low at)
  where
    go : (t : Bool) → bytes_eq x.0.now id ≡ t → (i : ℕ) → i < length (x ∷ xs) → ((d : Entry) → bytes_eq (slice_index_or (x ∷ xs) i d).0.now id ≡ true)
        → ((k : ℕ) → k < length xs → ((d : Entry) → bytes_eq (slice_index_or xs k d).0.now id ≡ true)
        → is_some (option_map (λ e. e.1) (find (λ e. bytes_eq e.0.now id) xs)) ≡ true)
        → is_some (option_map (λ e. e.1) (find (λ e. bytes_eq e.0.now id) (x ∷ xs))) ≡ true
    go true e i lt is rest = rw e refl
    go false e zero lt is rest =
        let bad : false ≡ true = sym e ∙ is x in
        cc
    go false e (suc i) lt is rest = rw e (rest i (omega arith) is)

is_read_present : (b : Command) (f : Found) (id : Text) (least most : ℕ) → groups_of b ≡ [] → (id ≡ [] → ⊥) → AreNumbers id least most b
    → HasId f id → All (EntryPasses b) f.entries.items → HasNumber id least most f
is_read_present b f id least most none named numbers has all =
    go (matched_of f id) refl (found_in f.entries.items id has.0 has.1 has.2)
  where
    go : (o : Option MatchedArg) → matched_of f id ≡ o → is_some (matched_of f id) ≡ true → HasNumber id least most f
    go None e some = cc
    go (Some x) e some = entry_read b f id least most x none named numbers all e

-- ---- the program's command

map_six : {A B : Type 0} (f : A → B) (list : List A) (x y z p t u : B) → map f list ≡ x ∷ y ∷ z ∷ p ∷ t ∷ u ∷ []
    → (v d h o g s : A) × (list ≡ v ∷ d ∷ h ∷ o ∷ g ∷ s ∷ []) × (f v ≡ x) × (f d ≡ y) × (f h ≡ z) × (f o ≡ p) × (f g ≡ t) × (f s ≡ u)
map_six f [] x y z p t u e = cc
map_six f (v ∷ []) x y z p t u e = cc
map_six f (v ∷ d ∷ []) x y z p t u e = cc
map_six f (v ∷ d ∷ h ∷ []) x y z p t u e = cc
map_six f (v ∷ d ∷ h ∷ o ∷ []) x y z p t u e = cc
map_six f (v ∷ d ∷ h ∷ o ∷ g ∷ []) x y z p t u e = cc
map_six f (v ∷ d ∷ h ∷ o ∷ g ∷ s ∷ []) x y z p t u e = (
  v,
  d,
  h,
  o,
  g,
  s,
  refl,
  ap (λ rs. slice_index_or rs 0 x) e,
  ap (λ rs. slice_index_or rs 1 y) e,
  ap (λ rs. slice_index_or rs 2 z) e,
  ap (λ rs. slice_index_or rs 3 p) e,
  ap (λ rs. slice_index_or rs 4 t) e,
  ap (λ rs. slice_index_or rs 5 u) e,
)
map_six f (v ∷ d ∷ h ∷ o ∷ g ∷ s ∷ w ∷ more) x y z p t u e = cc

rules_are : lexical_app.top.rules ≡ view_rule ∷ delay_rule ∷ hub_rule ∷ outline_rule ∷ generate_rule ∷ seed_rule ∷ []
unfolding lexical_app
rules_are = refl

top_is : (lexical_app.top.is_plain ≡ true) × (lexical_app.top.subcommand_negates_reqs ≡ false)
unfolding lexical_app
top_is = (refl, refl)

no_items : {X : Type 0} (xs : List X) → is_empty xs ≡ true → xs ≡ []
no_items [] e = refl
no_items (x ∷ xs) e =
    let some : is_empty (x ∷ xs) ≡ false = ne_eqb _ _ (λ z. absurd (omega arith)) in
    let bad : true ≡ false = sym e ∙ some in
    cc

not_true : (b : Bool) → not b ≡ true → b ≡ false
not_true true e = cc
not_true false e = refl

no_some : {X : Type 0} (o : Option X) → is_some o ≡ false → o ≡ None
no_some None e = refl
no_some (Some x) e = cc

-- an argument whose rule is simple and free excludes nothing, and splits no value
plain_arg : (a : Arg) → is_simple_arg a ≡ true → is_free_arg a ≡ true
    → IsPlainArg a × (a.default_vals_ifs.items ≡ []) × (a.val_delim ≡ None)
plain_arg a simple free =
    let overrides = both _ _ simple in
    let ifs = both _ _ overrides.1 in
    let groups = both _ _ ifs.1 in
    let delim = both _ _ groups.1 in
    let exclusive = both _ _ free in
    let conflicts = both _ _ exclusive.1 in (
      (not_true _ exclusive.0, no_items _ conflicts.0, no_items _ overrides.0, no_items _ groups.0),
      no_items _ ifs.0,
      no_some _ (not_true _ delim.0),
    )

plain_fields : (c : Command) → has_plain_fields (out-Command c) ≡ true → (groups_of c ≡ []) × ((out-Command c).has_globals ≡ false)
plain_fields c e =
    let groups = both _ _ e in
    let external = both _ _ groups.1 in
    let globals = both _ _ external.1 in
    (no_items _ groups.0, not_true _ globals.0)

some_text : (ts : List (Bor Text)) (t : Text) → texts ts ≡ t ∷ [] → 0 < length ts
some_text [] t e = cc
some_text (x ∷ xs) t e = omega arith

-- what a rule says of its argument
view_arg : (v : Arg) → rule_of v ≡ view_rule → (v.id.now ≡ codes "view") × IsPlainArg v
unfolding view_rule
view_arg v e =
    let plain = plain_arg v (ap (λ (r : Rule). r.is_simple) e) (ap (λ (r : Rule). r.is_free) e) in
    (ap (λ (r : Rule). r.id) e, plain.0)

hub_arg : (h : Arg) → rule_of h ≡ hub_rule → (h.id.now ≡ codes "hub") × IsPlainArg h
unfolding hub_rule
hub_arg h e =
    let plain = plain_arg h (ap (λ (r : Rule). r.is_simple) e) (ap (λ (r : Rule). r.is_free) e) in
    (ap (λ (r : Rule). r.id) e, plain.0)

outline_arg : (o : Arg) → rule_of o ≡ outline_rule → (o.id.now ≡ codes "outline") × IsPlainArg o
unfolding outline_rule
outline_arg o e =
    let plain = plain_arg o (ap (λ (r : Rule). r.is_simple) e) (ap (λ (r : Rule). r.is_free) e) in
    (ap (λ (r : Rule). r.id) e, plain.0)

delay_arg : (d : Arg) → rule_of d ≡ delay_rule → (d.id.now ≡ codes "delay") × IsPlainArg d × WantsDefault d × IsNumber 0 most_delay d
unfolding delay_rule
delay_arg d e =
    let plain = plain_arg d (ap (λ (r : Rule). r.is_simple) e) (ap (λ (r : Rule). r.is_free) e) in
    let range : d.num_vals ≡ None = ap (λ (r : Rule). r.range) e in
    let least : 1 ≤ least_values d = rw range (omega arith) in (
      ap (λ (r : Rule). r.id) e,
      plain.0,
      (plain.1, some_text (items_of d.default_vals) (codes "1000") (ap (λ (r : Rule). r.defaults) e)),
      (ap (λ (r : Rule). r.action) e, plain.2, least, ap (λ (r : Rule). r.parser) e),
    )

generate_arg : (g : Arg) → rule_of g ≡ generate_rule → (g.id.now ≡ codes "generate") × IsPlainArg g × IsNumber 1 most_lines g
unfolding generate_rule
generate_arg g e =
    let plain = plain_arg g (ap (λ (r : Rule). r.is_simple) e) (ap (λ (r : Rule). r.is_free) e) in
    let range : g.num_vals ≡ None = ap (λ (r : Rule). r.range) e in
    let least : 1 ≤ least_values g = rw range (omega arith) in (
      ap (λ (r : Rule). r.id) e,
      plain.0,
      (ap (λ (r : Rule). r.action) e, plain.2, least, ap (λ (r : Rule). r.parser) e),
    )

seed_arg : (s : Arg) → rule_of s ≡ seed_rule → (s.id.now ≡ codes "seed") × IsPlainArg s × IsNumber 0 most_seed s
unfolding seed_rule
seed_arg s e =
    let plain = plain_arg s (ap (λ (r : Rule). r.is_simple) e) (ap (λ (r : Rule). r.is_free) e) in
    let range : s.num_vals ≡ None = ap (λ (r : Rule). r.range) e in
    let least : 1 ≤ least_values s = rw range (omega arith) in (
      ap (λ (r : Rule). r.id) e,
      plain.0,
      (ap (λ (r : Rule). r.action) e, plain.2, least, ap (λ (r : Rule). r.parser) e),
    )

-- what the program's command is
record IsProgram (c : Command) : Type 0 where
  view : Arg
  delay : Arg
  hub : Arg
  outline : Arg
  generate : Arg
  seed : Arg
  args : args_of c ≡ view ∷ delay ∷ hub ∷ outline ∷ generate ∷ seed ∷ []
  view_id : view.id.now ≡ codes "view"
  delay_id : delay.id.now ≡ codes "delay"
  hub_id : hub.id.now ≡ codes "hub"
  outline_id : outline.id.now ≡ codes "outline"
  generate_id : generate.id.now ≡ codes "generate"
  seed_id : seed.id.now ≡ codes "seed"
  wants : WantsDefault delay
  is_delay : IsNumber 0 most_delay delay
  is_generate : IsNumber 1 most_lines generate
  is_seed : IsNumber 0 most_seed seed
  plain : IsPlain c
  globals : (out-Command c).has_globals ≡ false

is_program : (c : Command) → app_of c ≡ lexical_app → IsProgram c
is_program c e =
    let six =
    map_six rule_of (args_of c) view_rule delay_rule hub_rule outline_rule generate_rule seed_rule (ap (λ (a : App). a.top.rules) e ∙ rules_are) in
    let v = view_arg six.0 six.7 in
    let d = delay_arg six.1 six.8 in
    let h = hub_arg six.2 six.9 in
    let o = outline_arg six.3 six.10 in
    let g = generate_arg six.4 six.11 in
    let s = seed_arg six.5 six.12 in
    let fields = plain_fields c (ap (λ (a : App). a.top.is_plain) e ∙ top_is.0) in
    let all : All IsPlainArg (six.0 ∷ six.1 ∷ six.2 ∷ six.3 ∷ six.4 ∷ six.5 ∷ []) =
    λ k w lt. each_plain six.0 six.1 six.2 six.3 six.4 six.5 k w lt v.1 d.1 h.1 o.1 g.1 s.1 in
    record {
      view = six.0;
      delay = six.1;
      hub = six.2;
      outline = six.3;
      generate = six.4;
      seed = six.5;
      args = six.6;
      view_id = v.0;
      delay_id = d.0;
      hub_id = h.0;
      outline_id = o.0;
      generate_id = g.0;
      seed_id = s.0;
      wants = d.2;
      is_delay = d.3;
      is_generate = g.2;
      is_seed = s.2;
      plain = (subst (All IsPlainArg) (sym six.6) all, fields.0);
      globals = fields.1;
    }
  where
    each_plain : (v d h o g s : Arg) (k : ℕ) (w : Arg) → k < length (v ∷ d ∷ h ∷ o ∷ g ∷ s ∷ []) → IsPlainArg v → IsPlainArg d → IsPlainArg h
        → IsPlainArg o → IsPlainArg g → IsPlainArg s → IsPlainArg (slice_index_or (v ∷ d ∷ h ∷ o ∷ g ∷ s ∷ []) k w)
    each_plain v d h o g s zero w lt pv pd ph po pg ps = pv
    each_plain v d h o g s (suc zero) w lt pv pd ph po pg ps = pd
    each_plain v d h o g s (suc (suc zero)) w lt pv pd ph po pg ps = ph
    each_plain v d h o g s (suc (suc (suc zero))) w lt pv pd ph po pg ps = po
    each_plain v d h o g s (suc (suc (suc (suc zero)))) w lt pv pd ph po pg ps = pg
    each_plain v d h o g s (suc (suc (suc (suc (suc zero))))) w lt pv pd ph po pg ps = ps
    each_plain v d h o g s (suc (suc (suc (suc (suc (suc k)))))) w lt pv pd ph po pg ps = absurd (omega arith)

-- ---- the places of its arguments

abbrev first_letter : Text → ℕ
first_letter text = slice_index_or text 0 0

-- the place of the argument whose id begins with this letter
abbrev place_by : ℕ → ℕ
place_by letter =
    if letter == 118 then 0 else if letter == 100 then 1 else if letter == 104 then 2
    else if letter == 111 then 3 else if letter == 103 then 4 else 5

abbrev place_of : Text → ℕ
place_of id = place_by (first_letter id)

place_is : (c : Command) → IsProgram c → (j : ℕ) (e : Arg) → j < length (args_of c) → place_of (slice_index_or (args_of c) j e).id.now ≡ j
place_is c is j e lt =
    subst (λ (l : List Arg). place_of (slice_index_or l j e).id.now ≡ j) (sym is.args) (go j (subst (λ (l : List Arg). j < length l) is.args lt))
  where
    go : (j : ℕ) → j < length (is.view ∷ is.delay ∷ is.hub ∷ is.outline ∷ is.generate ∷ is.seed ∷ [])
        → place_of (slice_index_or (is.view ∷ is.delay ∷ is.hub ∷ is.outline ∷ is.generate ∷ is.seed ∷ []) j e).id.now ≡ j
    go zero lt = ap place_of is.view_id
    go (suc zero) lt = ap place_of is.delay_id
    go (suc (suc zero)) lt = ap place_of is.hub_id
    go (suc (suc (suc zero))) lt = ap place_of is.outline_id
    go (suc (suc (suc (suc zero)))) lt = ap place_of is.generate_id
    go (suc (suc (suc (suc (suc zero))))) lt = ap place_of is.seed_id
    go (suc (suc (suc (suc (suc (suc k)))))) lt = absurd (omega arith)

same_number : (least most : ℕ) (a y : Arg) → SameRules a y → IsNumber least most a → IsNumber least most y
same_number least most a y s is =
    (s.action Set is.0, s.val_delim ∙ is.1, s.least is.0 is.2, s.parser (number_parser least most) is.3)

-- an id that is neither empty nor one of those that clap has for itself
abbrev IsOwn : Text → Type 0
IsOwn id = (id ≡ [] → ⊥) × (id ≡ codes "help" → ⊥) × (id ≡ codes "version" → ⊥)

own_delay : IsOwn (codes "delay")
own_delay = (λ e. cc, λ e. cc, λ e. cc)

own_generate : IsOwn (codes "generate")
own_generate = (λ e. cc, λ e. cc, λ e. cc)

other_letter : (a b : ℕ) → a ≡ b → a ≡ 115 → b ≡ 104 → ⊥
other_letter a b same is_s is_h = omega arith

seed_not_help : codes "seed" ≡ codes "help" → ⊥
seed_not_help e = other_letter (first_letter (codes "seed")) (first_letter (codes "help")) (ap first_letter e) refl refl

own_seed : IsOwn (codes "seed")
own_seed = (λ e. cc, seed_not_help, λ e. cc)

-- what is built of the program's command takes such numbers under the id of an argument that does
are_numbers : (c : Command) (m : ArgMatches) (p : IsParsedFrom c m) → IsProgram c → (id : Text) (least most k : ℕ) (a : Arg)
    → k < length (args_of c) → slice_index_or (args_of c) k a ≡ a → a.id.now ≡ id → IsOwn id
    → IsNumber least most a → AreNumbers id least most p.built
are_numbers c m p is id least most k a lt at named own_id number = λ j y high here same.
    let id_at : (slice_index_or (args_of c) k a).id.now ≡ id = ap (λ (x : Arg). x.id.now) at ∙ named in
    let unique : (j : ℕ) (e : Arg) → j < length (args_of c)
    → bytes_eq (slice_index_or (args_of c) j e).id.now (slice_index_or (args_of c) k a).id.now ≡ true → j ≡ k =
    λ j e lt_j equal.
    let ids : (slice_index_or (args_of c) j e).id.now ≡ (slice_index_or (args_of c) k a).id.now = (bytes_eq-Decides _ _).0 equal in
    sym (place_is c is j e lt_j) ∙ (ap place_of ids ∙ place_is c is k a lt) in
    let own : IsAuto (slice_index_or (args_of c) k a) → ⊥ = λ auto. elim auto [
      | inl h ↦ own_id.1 (sym id_at ∙ h)
      | inr h ↦ own_id.2 (sym id_at ∙ h)
    ] in
    same_number least most a y (subst (λ (x : Arg). SameRules x y) at
    (same_rules_by_id c m p k a lt unique own j y high here (rw id_at same))) number

-- a parse of the program's arguments has numbers that their parsers took
pub has_numbers : (c : Command) (m : ArgMatches) → app_of c ≡ lexical_app → IsParsedFrom c m → HasNumbers (found_of m)
has_numbers c m e p =
    let is = is_program c e in
    let within : (k : ℕ) → k < 6 → k < length (args_of c) = λ k lt. subst (λ (l : List Arg). k < length l) (sym is.args) lt in
    let parsed = p.parsed (p.from.globals ∙ is.globals) in
    let no_groups = (p.from.plain is.plain).1 in
    let delay_at : slice_index_or (args_of c) 1 is.delay ≡ is.delay = ap (λ (l : List Arg). slice_index_or l 1 is.delay) is.args in
    let generate_at : slice_index_or (args_of c) 4 is.generate ≡ is.generate = ap (λ (l : List Arg). slice_index_or l 4 is.generate) is.args in
    let seed_at : slice_index_or (args_of c) 5 is.seed ≡ is.seed = ap (λ (l : List Arg). slice_index_or l 5 is.seed) is.args in
    let wants : WantsDefault (slice_index_or (args_of c) 1 is.delay) = subst WantsDefault (sym delay_at) is.wants in
    let has : HasId (found_of m) (codes "delay") = subst (HasId (found_of m)) (ap (λ (a : Arg). a.id.now) delay_at ∙ is.delay_id)
    (default_present c m p is.globals 1 is.delay (within 1 (omega arith)) wants) in
    record {
      delay = is_read_present p.built (found_of m) (codes "delay") 0 most_delay no_groups own_delay.0
          (are_numbers c m p is (codes "delay") 0 most_delay 1 is.delay (within 1 (omega arith)) delay_at is.delay_id own_delay is.is_delay)
          has parsed.values;
      generate = may_be_read p.built (found_of m) (codes "generate") 1 most_lines no_groups own_generate.0
          (are_numbers c m p is (codes "generate") 1 most_lines 4 is.generate (within 4 (omega arith)) generate_at is.generate_id own_generate is.is_generate)
          parsed.values;
      seed = may_be_read p.built (found_of m) (codes "seed") 0 most_seed no_groups own_seed.0
          (are_numbers c m p is (codes "seed") 0 most_seed 5 is.seed (within 5 (omega arith)) seed_at is.seed_id own_seed is.is_seed)
          parsed.values;
    }
