-- What an object's own members give in their order is what all members give that are looked up in it.
use Rattle.std.proofs.Common.{◌≡◌, ◌∙◌, refl, sym, ap, subst, ℕ, List, [], ◌∷◌, Bool, true, false, ◌&&◌, if◌then◌else◌, Option, None, Some, option_and_then, Result, Ok, Err, String, string_bytes, chars}
use Rattle.std.specs.Str.{bytes_eq}
use Rattle.std.specs.Ordering.{nat_cmp, is_eq, is_lt, ordering_reverse}
use Rattle.std.specs.declared.cmp.Ordering.{Ordering}
use Rattle.std.specs.declared.cmp.Ordering.TheVariants.{Less, Equal, Greater}
use Rattle.std.specs.Cmp.Lexicographic.{slice_cmp}
use Rattle.std.proofs.lemmas.Cmp.{nat_list_cmp_total, tied_itself}
use Rattle.std.proofs.lemmas.Map.Text.{is_eq-slice_cmp}
use Rattle.std.proofs.lemmas.Slice.Eq.{bytes_eq-Decides}
use Rattle.std.specs.List.{AllByRecursion}
use Rattle.std.specs.List.Sorted.{IsStrictlySortedBy}
use Rattle.std.specs.String.{string_cmp}
use Rattle.std.specs.Map.{keys_of}
use Rattle.std.specs.declared.alloc.Global.{Global}
use Rattle.serde_json.proofs.Views.{Entry}
use Rattle.serde_json.specs.View.{view, members_view}
use Rattle.serde_json.specs.Data.{Data, object, Members, no_members, member}
use Rattle.serde_json.specs.Find.{get_member, as_object}
use Rattle.lx_node.specs.declared.kind.Kind.{Kind}
use Rattle.lx_node.specs.declared.fields.Fields.{Fields}
use Rattle.lx_fields.specs.declared.words.Name.{Name}
use Rattle.lx_fields.specs.Documents.{takes, name_in, given_by, or_bad, fields_with, fields_given}
use Rattle.lx_fields.specs.Values.{word_in}
use Rattle.lx_fields.specs.Words.{names}
use Rattle.lx_fields.proofs.Written.{both_true, first_true, second_true}

-- ---- what the members give in their order

-- what goes on once a member has given what it gives, which is nothing where the kind has none of its name
abbrev pub given_as : Kind → List ℕ → Data → Option Name → (Fields → Result Fields (List ℕ)) → Fields → Result Fields (List ℕ)
given_as kind text d None go_on old = go_on old
given_as kind text d (Some known) go_on old = or_bad text go_on (given_by kind known (Some d) old)

-- the member of a name among these rows that the kind has
abbrev pub taken_in : Kind → List (List ℕ × Name) → List ℕ → Option Name
taken_in kind rows text = option_and_then (λ known. if takes kind known then Some known else None) (word_in rows text)

-- the fields with what each of an object's members gives, in their order
abbrev pub given_each : Kind → List (List ℕ × Name) → Members → Fields → Result Fields (List ℕ)
given_each kind rows no_members old = Ok old
given_each kind rows (member text d rest) old = given_as kind text d (taken_in kind rows text) (given_each kind rows rest) old

-- ---- the order of names

abbrev is_before : List ℕ → List ℕ → Bool
is_before a b = is_lt (slice_cmp nat_cmp a b)

is_less : (o : Ordering) → is_lt o ≡ true → o ≡ Less
is_less Less is = refl
is_less Equal is = absurd (cc)
is_less Greater is = absurd (cc)

before_all : (a b c : List ℕ) → is_before a b ≡ true → is_before b c ≡ true → is_before a c ≡ true
before_all a b c first next =
    ap is_lt (nat_list_cmp_total.trans a b c (is_less (slice_cmp nat_cmp a b) first) (is_less (slice_cmp nat_cmp b c) next))

-- the order from behind
after_it : (a b : List ℕ) → is_before a b ≡ true → slice_cmp nat_cmp b a ≡ Greater
after_it a b is = nat_list_cmp_total.antisymm b a ∙ ap ordering_reverse (is_less (slice_cmp nat_cmp a b) is)

unlike : (a b : List ℕ) → is_before a b ≡ true → bytes_eq a b ≡ false
unlike a b is = sym (is_eq-slice_cmp a b) ∙ ap is_eq (is_less (slice_cmp nat_cmp a b) is)

unlike_back : (a b : List ℕ) → is_before a b ≡ true → bytes_eq b a ≡ false
unlike_back a b is = sym (is_eq-slice_cmp b a) ∙ ap is_eq (after_it a b is)

-- a name is before those of all rows, and rows rise
abbrev before_rows : List ℕ → List (List ℕ × Name) → Bool
before_rows text [] = true
before_rows text (row ∷ rows) = is_before text row.0 && before_rows text rows

abbrev pub rows_rise : List (List ℕ × Name) → Bool
rows_rise [] = true
rows_rise (row ∷ rows) = before_rows row.0 rows && rows_rise rows

-- a name is before those of all members, and members rise
abbrev pub before_members : List ℕ → Members → Bool
before_members text no_members = true
before_members text (member name d rest) = is_before text name && before_members text rest

abbrev pub members_rise : Members → Bool
members_rise no_members = true
members_rise (member name d rest) = before_members name rest && members_rise rest

rows_behind : (a b : List ℕ) (rows : List (List ℕ × Name)) → is_before a b ≡ true → before_rows b rows ≡ true → before_rows a rows ≡ true
rows_behind a b [] first next = refl
rows_behind a b (row ∷ rows) first next =
    both_true (is_before a row.0) (before_rows a rows) (before_all a b row.0 first (first_true (is_before b row.0) (before_rows b rows) next))
    (rows_behind a b rows first (second_true (is_before b row.0) (before_rows b rows) next))

members_behind : (a b : List ℕ) (ms : Members) → is_before a b ≡ true → before_members b ms ≡ true → before_members a ms ≡ true
members_behind a b no_members first next = refl
members_behind a b (member name d ms) first next =
    both_true (is_before a name) (before_members a ms) (before_all a b name first (first_true (is_before b name) (before_members b ms) next))
    (members_behind a b ms first (second_true (is_before b name) (before_members b ms) next))

-- ---- what is passed over

-- a name before those of all members is that of none
absent : (text : List ℕ) (ms : Members) → before_members text ms ≡ true → get_member text ms ≡ None
absent text no_members is = refl
absent text (member name d ms) is =
    rw (is_less (slice_cmp nat_cmp text name) (first_true (is_before text name) (before_members text ms) is))
    (absent text ms (second_true (is_before text name) (before_members text ms) is))

-- a name before those of all rows is that of none
no_word : (text : List ℕ) (rows : List (List ℕ × Name)) → before_rows text rows ≡ true → word_in rows text ≡ None
no_word text [] is = refl
no_word text (row ∷ rows) is =
    rw (unlike_back text row.0 (first_true (is_before text row.0) (before_rows text rows) is))
    (no_word text rows (second_true (is_before text row.0) (before_rows text rows) is))

module _ (kind : Kind) where
  or_bad_on : (text : List ℕ) (f g : Fields → Result Fields (List ℕ)) → ((x : Fields) → f x ≡ g x) → (o : Option Fields) → or_bad text f o ≡ or_bad text g o
  or_bad_on text f g alike None = refl
  or_bad_on text f g alike (Some x) = alike x

  given_on : (text : List ℕ) (d : Data) (o : Option Name) (f g : Fields → Result Fields (List ℕ)) → ((x : Fields) → f x ≡ g x) → (x : Fields)
      → given_as kind text d o f x ≡ given_as kind text d o g x
  given_on text d None f g alike x = alike x
  given_on text d (Some known) f g alike x = or_bad_on text f g alike (given_by kind known (Some d) x)

  -- a row before all members gives nothing
  row_passed : (row : List ℕ × Name) (rows : List (List ℕ × Name)) (ms : Members) → before_members row.0 ms ≡ true → (x : Fields)
      → given_each kind (row ∷ rows) ms x ≡ given_each kind rows ms x
  row_passed row rows no_members is x = refl
  row_passed row rows (member name d ms) is x =
      rw (unlike row.0 name (first_true (is_before row.0 name) (before_members row.0 ms) is))
      (given_on name d (taken_in kind rows name) (given_each kind (row ∷ rows) ms) (given_each kind rows ms)
      (row_passed row rows ms (second_true (is_before row.0 name) (before_members row.0 ms) is)) x)

  -- what goes on at a row is the same where the same is found there
  row_on : (row : List ℕ × Name) (o p : Option Data) (f g : Fields → Result Fields (List ℕ)) → o ≡ p → ((x : Fields) → f x ≡ g x) → (x : Fields)
      → (if takes kind row.1 then or_bad row.0 f (given_by kind row.1 o x) else f x)
      ≡ (if takes kind row.1 then or_bad row.0 g (given_by kind row.1 p x) else g x)
  row_on row o p f g same alike x =
      elim (takes kind row.1) as (λ has.
      (if has then or_bad row.0 f (given_by kind row.1 o x) else f x) ≡ (if has then or_bad row.0 g (given_by kind row.1 p x) else g x)) [
        | true ↦ ap (λ o. or_bad row.0 f (given_by kind row.1 o x)) same ∙ or_bad_on row.0 f g alike (given_by kind row.1 p x)
        | false ↦ alike x
      ]

  -- a member before all rows isn't looked up
  member_passed : (name : List ℕ) (d : Data) (ms : Members) (rows : List (List ℕ × Name)) → before_rows name rows ≡ true → (x : Fields)
      → fields_with kind rows (λ text. get_member text (member name d ms)) x ≡ fields_with kind rows (λ text. get_member text ms) x
  member_passed name d ms [] is x = refl
  member_passed name d ms (row ∷ rows) is x =
      row_on row (get_member row.0 (member name d ms)) (get_member row.0 ms) _ _
      (rw (after_it name row.0 (first_true (is_before name row.0) (before_rows name rows) is)) refl)
      (member_passed name d ms rows (second_true (is_before name row.0) (before_rows name rows) is)) x

  -- a row of which nothing is found gives nothing
  none_given : (row : List ℕ × Name) (o : Option Data) (f : Fields → Result Fields (List ℕ)) → o ≡ None → (x : Fields)
      → (if takes kind row.1 then or_bad row.0 f (given_by kind row.1 o x) else f x) ≡ f x
  unfolding given_by
  none_given row o f none x =
      elim (takes kind row.1) as (λ has. (if has then or_bad row.0 f (given_by kind row.1 o x) else f x) ≡ f x)
      [ true ↦ ap (λ o. or_bad row.0 f (given_by kind row.1 o x)) none | false ↦ refl ]

  -- where nothing is found, nothing is given
  pub nothing_given : (rows : List (List ℕ × Name)) (find : List ℕ → Option Data) → ((text : List ℕ) → find text ≡ None) → (x : Fields)
      → fields_with kind rows find x ≡ Ok x
  nothing_given [] find none x = refl
  nothing_given (row ∷ rows) find none x = none_given row (find row.0) (fields_with kind rows find) (none row.0) x ∙ nothing_given rows find none x

  no_rows : (ms : Members) (x : Fields) → given_each kind [] ms x ≡ Ok x
  no_rows no_members x = refl
  no_rows (member name d ms) x = no_rows ms x

  -- ---- both in one order

  abbrev Same : List (List ℕ × Name) → Members → Type 0
  Same rows ms = (x : Fields) → given_each kind rows ms x ≡ fields_with kind rows (λ text. get_member text ms) x

  -- the first member is of the first row
  at_row : (row : List ℕ × Name) (rows : List (List ℕ × Name)) (d : Data) (ms : Members) → before_rows row.0 rows ≡ true → before_members row.0 ms ≡ true
      → Same rows ms → Same (row ∷ rows) (member row.0 d ms)
  at_row row rows d ms of_rows of_members same x =
      let equal : slice_cmp nat_cmp row.0 row.0 ≡ Equal = tied_itself nat_list_cmp_total row.0 in
      let here : bytes_eq row.0 row.0 ≡ true = sym (is_eq-slice_cmp row.0 row.0) ∙ ap is_eq equal in
      let next : Fields → Result Fields (List ℕ) = fields_with kind rows (λ text. get_member text (member row.0 d ms)) in
      let on : (x : Fields) → given_each kind (row ∷ rows) ms x ≡ next x =
      λ x. row_passed row rows ms of_members x ∙ same x ∙ sym (member_passed row.0 d ms rows of_rows x) in
      rw (here, equal)
      (elim (takes kind row.1) as (λ has.
      given_as kind row.0 d (if has then Some row.1 else None) (given_each kind (row ∷ rows) ms) x
      ≡ (if has then or_bad row.0 next (given_by kind row.1 (Some d) x) else next x)) [
        | true ↦ or_bad_on row.0 (given_each kind (row ∷ rows) ms) next on (given_by kind row.1 (Some d) x)
        | false ↦ on x
      ])

  -- the first member is before the first row, and those behind it
  before_row : (row : List ℕ × Name) (rows : List (List ℕ × Name)) (name : List ℕ) (d : Data) (ms : Members) → before_rows name (row ∷ rows) ≡ true
      → Same (row ∷ rows) ms → Same (row ∷ rows) (member name d ms)
  before_row row rows name d ms is same x =
      rw (no_word name (row ∷ rows) is) (same x ∙ sym (member_passed name d ms (row ∷ rows) is x))

  -- the first row is before the first member, and those behind it
  after_row : (row : List ℕ × Name) (rows : List (List ℕ × Name)) (ms : Members) → before_members row.0 ms ≡ true → Same rows ms → Same (row ∷ rows) ms
  after_row row rows ms is same x =
      row_passed row rows ms is x ∙ same x
      ∙ sym (none_given row (get_member row.0 ms) (fields_with kind rows (λ text. get_member text ms)) (absent row.0 ms is) x)

  -- which of the first member and the first row is before the other
  met : (row : List ℕ × Name) (rows : List (List ℕ × Name)) (name : List ℕ) (d : Data) (ms : Members) (o : Ordering) → slice_cmp nat_cmp name row.0 ≡ o
      → before_rows row.0 rows ≡ true → before_members name ms ≡ true → Same (row ∷ rows) ms → Same rows ms → Same rows (member name d ms)
      → Same (row ∷ rows) (member name d ms)
  met row rows name d ms Less is of_rows of_members past both later =
      before_row row rows name d ms (both_true (is_before name row.0) (before_rows name rows) (ap is_lt is) (rows_behind name row.0 rows (ap is_lt is) of_rows))
      past
  met row rows name d ms Equal is of_rows of_members past both later =
      let same : name ≡ row.0 = (bytes_eq-Decides name row.0).0 (sym (is_eq-slice_cmp name row.0) ∙ ap is_eq is) in
      subst (λ text. Same (row ∷ rows) (member text d ms)) (sym same)
      (at_row row rows d ms of_rows (subst (λ text. before_members text ms ≡ true) same of_members) both)
  met row rows name d ms Greater is of_rows of_members past both later =
      let first : is_before row.0 name ≡ true = ap is_lt (nat_list_cmp_total.antisymm row.0 name ∙ ap ordering_reverse is) in
      after_row row rows (member name d ms)
      (both_true (is_before row.0 name) (before_members row.0 ms) first (members_behind row.0 name ms first of_members)) later

  in_order : (rows : List (List ℕ × Name)) (ms : Members) → rows_rise rows ≡ true → members_rise ms ≡ true → Same rows ms
  in_order [] ms of_rows of_members = no_rows ms
  in_order (row ∷ rows) no_members of_rows of_members = λ x. sym (nothing_given (row ∷ rows) (λ _. None) (λ _. refl) x)
  in_order (row ∷ rows) (member name d ms) of_rows of_members =
      let of_rest : members_rise ms ≡ true = second_true (before_members name ms) (members_rise ms) of_members in
      let of_later : rows_rise rows ≡ true = second_true (before_rows row.0 rows) (rows_rise rows) of_rows in
      met row rows name d ms (slice_cmp nat_cmp name row.0) refl (first_true (before_rows row.0 rows) (rows_rise rows) of_rows)
      (first_true (before_members name ms) (members_rise ms) of_members) (in_order (row ∷ rows) ms of_rows of_rest) (in_order rows ms of_later of_rest)
      (in_order rows (member name d ms) of_later of_members)

-- ---- the entries of a map

before_entries : (k : String Global) (es : List Entry) → AllByRecursion (λ y. string_cmp k y ≡ Less) (keys_of es)
    → before_members (string_bytes k) (members_view es) ≡ true
before_entries k [] is = refl
before_entries k (e ∷ es) is =
    both_true (is_before (string_bytes k) (string_bytes e.0)) (before_members (string_bytes k) (members_view es)) (ap is_lt is.0) (before_entries k es is.1)

entries_rise : (es : List Entry) → IsStrictlySortedBy string_cmp (keys_of es) → members_rise (members_view es) ≡ true
unfolding IsStrictlySortedBy
entries_rise [] is = refl
entries_rise (e ∷ es) is =
    both_true (before_members (string_bytes e.0) (members_view es)) (members_rise (members_view es)) (before_entries e.0 es is.0) (entries_rise es is.1)

-- what the members of an object give in their order is what all give that are looked up
pub each_given : (kind : Kind) (es : List Entry) → IsStrictlySortedBy string_cmp (keys_of es) → (x : Fields)
    → given_each kind names (members_view es) x ≡ fields_given kind (object (members_view es)) x
unfolding fields_given
each_given kind es is = in_order kind names (members_view es) refl (entries_rise es is)

-- a member that doesn't take its value is the first bad one
pub refused_at : (kind : Kind) (old new : Fields) (e : Entry) (left entries : List Entry) (text : List ℕ) (known : Name) (is_taken : Bool)
    → entries ≡ e ∷ left → text ≡ string_bytes e.0 → Some known ≡ name_in kind text → is_taken ≡ false
    → given_by kind known (Some (view e.1)) old ≡ (if is_taken then Some new else None)
    → Err (chars text) ≡ given_each kind names (members_view entries) old
refused_at kind old new e left entries text known is_taken first is named off given = rw (first, ← is, ← named, given, off) refl

-- ---- what is no object

pub is_object_of : (d : Data) (ms : Members) → Some ms ≡ as_object d → d ≡ object ms
is_object_of (object ms) of is = let same : of ≡ ms = cc in ap (λ ms. object ms) (sym same)
is_object_of _ ms is = absurd (cc)

pub none_of_others : (kind : Kind) (d : Data) (x : Fields) → None ≡ as_object d → fields_given kind d x ≡ Ok x
unfolding fields_given
none_of_others kind (object ms) x is = absurd (cc)
none_of_others kind _ x is = nothing_given kind names (λ _. None) (λ _. refl) x
