-- What an object gives is sound: fields of their kinds, and members that are within their ranges.
use Rattle.std.proofs.Common.{◌≡◌, refl, subst, ℕ, List, [], ◌∷◌, Bool, true, false, ◌&&◌, leb, IsTrue, if◌then◌else◌, Option, None, Some, option_map, option_and_then, is_some, Result, Ok}
use Rattle.std.specs.List.{list_all}
use Rattle.std.specs.Option.{option_or}
use Rattle.std.specs.Str.{bytes_eq}
use Rattle.std.proofs.lemmas.Option.{cond_some}
use Rattle.serde_json.specs.Data.{Data}
use Rattle.serde_json.specs.Find.{get, as_null, as_str}
use Rattle.lx_node.specs.declared.kind.Kind.{Kind}
use Rattle.lx_node.specs.declared.kind.Kind.TheVariants as kind
use Rattle.lx_node.specs.declared.fields.Extra.{Extra}
use Rattle.lx_node.specs.declared.fields.Extra.TheVariants as extra
use Rattle.lx_node.specs.declared.fields.Fields.{Fields}
use Rattle.lx_node.specs.declared.fields.Fields.TheVariants as fields
use Rattle.lx_node.specs.Kinds.{is_possible, type_name}
use Rattle.lx_node.specs.OfKind.{IsOfKind, is_of_kind, fits_kind, is_element_of, is_text_of, are_text_fields, are_tab_fields, are_embed_fields, are_bare, is_tab_text, is_normal, is_extra_of, is_plain, is_list_extra, is_item_extra, is_link_extra, is_cell_extra, is_span}
use Rattle.lx_step.specs.declared.member.Member.{Member}
use Rattle.lx_step.specs.declared.member.Member.TheVariants as set
use Rattle.lx_step.specs.Patches.{has, with_member, is_in_range, IsInRange}
use Rattle.lx_step.proofs.Kept.{keeps_kind_with}
use Rattle.lx_fields.specs.declared.words.Name.{Name}
use Rattle.lx_fields.specs.declared.words.Name.TheVariants as name
use Rattle.lx_fields.specs.Documents.{default_extra, default_fields, extra_with_value, item_with_value, with_given, takes, given_by, or_bad, fields_with, fields_given, document_fields}
use Rattle.lx_fields.specs.Members.{settable}
use Rattle.lx_fields.specs.Types.{or_kept, told_by}
use Rattle.lx_fields.specs.Values.{word_in, named, whole_of, number_within}
use Rattle.lx_fields.specs.Words.{kind_in, names, levels, list_types, aligns}

-- ---- what holds of all that an option can be

pub mapped : {A B : Type 0} (P : B → Type 0) (f : A → B) (o : Option A) → ((a : A) → o ≡ Some a → P (f a)) → (b : B) → option_map f o ≡ Some b → P b
mapped P f None holds b is = absurd (cc)
mapped P f (Some a) holds b is = let same : f a ≡ b = cc in subst P same (holds a refl)

pub either : {B : Type 0} (P : B → Type 0) (o p : Option B) → ((b : B) → o ≡ Some b → P b) → ((b : B) → p ≡ Some b → P b) → (b : B) → option_or o p ≡ Some b
    → P b
either P None p holds_o holds_p b is = holds_p b is
either P (Some a) p holds_o holds_p b is = holds_o b is

pub chained : {A B : Type 0} (P : B → Type 0) (f : A → Option B) (o : Option A) → ((a : A) → o ≡ Some a → (b : B) → f a ≡ Some b → P b) → (b : B)
    → option_and_then f o ≡ Some b → P b
chained P f None holds b is = absurd (cc)
chained P f (Some a) holds b is = holds a refl b is

pub tested : {B : Type 0} (P : B → Type 0) (test : Bool) (o : Option B) → ((b : B) → o ≡ Some b → P b) → (b : B) → (if test then o else None) ≡ Some b → P b
tested P true o holds b is = holds b is
tested P false o holds b is = absurd (cc)

-- ---- what holds of two truths holds of each

left : (a b : Bool) → IsTrue (a && b) → IsTrue a
left true b is = refl
left false b is = absurd (cc)

right : (a b : Bool) → IsTrue (a && b) → IsTrue b
right true b is = is
right false b is = absurd (cc)

-- ---- tables of words

abbrev pub EachRow : {A : Type 0} → (A → Type 0) → List (List ℕ × A) → Type 0
EachRow P [] = Unit {0}
EachRow P (row ∷ rows) = P row.1 × EachRow P rows

-- what holds of all holds of each row
pub all_rows : {A : Type 0} (P : A → Type 0) → ((a : A) → P a) → (rows : List (List ℕ × A)) → EachRow P rows
all_rows P holds [] = tt
all_rows P holds (row ∷ rows) = (holds row.1, all_rows P holds rows)

-- what a test of each row says
pub rows_tested : {A : Type 0} (test : A → Bool) (rows : List (List ℕ × A)) → IsTrue (list_all (λ row. test row.1) rows) → EachRow (λ a. IsTrue (test a)) rows
rows_tested test [] all = tt
rows_tested test (row ∷ rows) all = (left (test row.1) _ all, rows_tested test rows (right (test row.1) _ all))

first_holds : {A : Type 0} (P : A → Type 0) (test : Bool) (first : A) (rest : Option A) → P first → ((a : A) → rest ≡ Some a → P a) → (a : A)
    → (if test then Some first else rest) ≡ Some a → P a
first_holds P true first rest here later a is = let same : first ≡ a = cc in subst P same here
first_holds P false first rest here later a is = later a is

-- what holds of each row of a table holds of what a word stands for, and of what a string stands for
word_holds : {A : Type 0} (P : A → Type 0) (rows : List (List ℕ × A)) → EachRow P rows → (text : List ℕ) (a : A) → word_in rows text ≡ Some a → P a
word_holds P [] each text a is = absurd (cc)
word_holds P (row ∷ rows) each text a is = first_holds P (bytes_eq row.0 text) row.1 (word_in rows text) each.0 (word_holds P rows each.1 text) a is

pub named_holds : {A : Type 0} (P : A → Type 0) (rows : List (List ℕ × A)) → EachRow P rows → (d : Data) (a : A) → named rows d ≡ Some a → P a
named_holds P rows each d a is = chained P (word_in rows) (as_str d) (λ text at. word_holds P rows each text) a is

-- what a test of each of these kinds says of that of a type
pub kind_tested : (test : Kind → Bool) (kinds : List Kind) → IsTrue (list_all test kinds) → (text : List ℕ) (of : Kind) → kind_in kinds text ≡ Some of
    → IsTrue (test of)
kind_tested test [] all text of is = absurd (cc)
kind_tested test (first ∷ kinds) all text of is =
    first_holds (λ of. IsTrue (test of)) (bytes_eq (type_name first) text) first (kind_in kinds text) (left (test first) _ all)
    (kind_tested test kinds (right (test first) _ all) text) of is

kept_holds : {A : Type 0} (P : Kind → Type 0) (make : A → Kind) (kind : Kind) (o : Option A) → ((a : A) → o ≡ Some a → P (make a)) → P kind
    → P (or_kept kind (option_map make o))
kept_holds P make kind None told was = was
kept_holds P make kind (Some a) told was = told a refl

-- what holds of a kind, and of each that a table has in its place, holds of the one that a member tells
pub told_by_holds : {A : Type 0} (P : Kind → Type 0) (make : A → Kind) (kind : Kind) (rows : List (List ℕ × A)) (o : Option Data)
    → EachRow (λ a. P (make a)) rows → P kind → P (told_by make kind rows o)
told_by_holds P make kind rows None each was = was
told_by_holds P make kind rows (Some d) each was = kept_holds P make kind (named rows d) (named_holds (λ a. P (make a)) rows each d) was

-- ---- numbers within bounds

within : (least most : ℕ) (o : Option ℕ) (n : ℕ) → option_and_then (λ n. if leb least n && leb n most then Some n else None) o ≡ Some n
    → IsTrue (leb least n && leb n most)
within least most None n is = absurd (cc)
within least most (Some m) n is =
    let parts = cond_some (leb least m && leb m most) m n is in
    let P : ℕ → Type 0 = λ k. IsTrue (leb least k && leb k most) in
    subst P parts.1 parts.0

and : (a b : Bool) → IsTrue a → IsTrue b → IsTrue (a && b)
and true b of_a of_b = of_b
and false b of_a of_b = absurd (cc)

pub up_to : (most : ℕ) (d : Data) (n : ℕ) → number_within 0 most d ≡ Some n → IsTrue (leb n most)
up_to most d n is = right (leb 0 n) (leb n most) (within 0 most (whole_of d) n is)

-- ---- members that are read

any : {A : Type 0} (f : A → Member) → ((a : A) → IsInRange (f a)) → (o : Option A) (m : Member) → option_map f o ≡ Some m → IsInRange m
any f holds o m is = mapped IsInRange f o (λ a at. holds a) m is

pub settable-ranged : (known : Name) (d : Data) (m : Member) → settable known d ≡ Some m → IsInRange m
unfolding settable is_in_range is_span
settable-ranged name.Format d m is =
    either IsInRange (option_map (λ align. set.Align align) (named aligns d)) (option_map (λ format. set.Format format) (number_within 0 65535 d))
    (any (λ align. set.Align align) (λ align. refl) (named aligns d)) (any (λ format. set.Format format) (λ format. refl) (number_within 0 65535 d)) m is
settable-ranged name.Tag d m is = absurd (cc)
settable-ranged name.ListType d m is = absurd (cc)
settable-ranged name.Start d m is = mapped IsInRange (λ start. set.Start start) (number_within 0 1000000 d) (λ n at. up_to 1000000 d n at) m is
settable-ranged name.Value d m is = absurd (cc)
settable-ranged name.HeaderState d m is = mapped IsInRange (λ header. set.HeaderState header) (number_within 0 3 d) (λ n at. up_to 3 d n at) m is
settable-ranged name.ColSpan d m is = mapped IsInRange (λ span. set.ColSpan span) (number_within 1 1000 d) (λ n at. within 1 1000 (whole_of d) n at) m is
settable-ranged name.RowSpan d m is = mapped IsInRange (λ span. set.RowSpan span) (number_within 1 1000 d) (λ n at. within 1 1000 (whole_of d) n at) m is
settable-ranged name.Detail d m is = mapped IsInRange (λ detail. set.Detail detail) (number_within 0 3 d) (λ n at. up_to 3 d n at) m is
settable-ranged _ d m is = any _ (λ _. refl) _ m is

-- ---- fields that an object gives

member_keeps : (kind : Kind) (o : Option Member) (old new : Fields) → ((m : Member) → o ≡ Some m → IsInRange m)
    → option_and_then (λ member. if has kind member then Some (with_member member old) else None) o ≡ Some new → IsOfKind kind old → IsOfKind kind new
member_keeps kind None old new ranged is of = absurd (cc)
member_keeps kind (Some m) old new ranged is of =
    let parts = cond_some (has kind m) (with_member m old) new is in
    subst (IsOfKind kind) parts.1 (keeps_kind_with kind m old (ranged m refl) parts.0 of)

extra_keeps : (kind : Kind) (value : ℕ) (old : Extra) → IsTrue (leb value 1200000) → IsTrue (is_extra_of kind old)
    → IsTrue (is_extra_of kind (extra_with_value value old))
unfolding is_extra_of is_plain is_list_extra is_item_extra is_link_extra is_cell_extra
extra_keeps kind.Item value (extra.Item old checked) ranged of = ranged
extra_keeps _ value (extra.Item old checked) ranged of = absurd (cc)
extra_keeps kind value _ ranged of = of

fitting : (kind : Kind) (value : ℕ) (old : Fields) → IsTrue (leb value 1200000) → IsTrue (fits_kind kind old)
    → IsTrue (fits_kind kind (item_with_value value old))
unfolding fits_kind is_element_of is_text_of are_embed_fields are_bare item_with_value
fitting kind.Text value (fields.Element old) ranged of = absurd (cc)
fitting kind.Tab value (fields.Element old) ranged of = absurd (cc)
fitting kind.Break value (fields.Element old) ranged of = absurd (cc)
fitting kind.Rule value (fields.Element old) ranged of = absurd (cc)
fitting kind.Embed value (fields.Element old) ranged of = absurd (cc)
fitting kind value (fields.Element old) ranged of = extra_keeps kind value old.extra ranged of
fitting kind value _ ranged of = of

value_keeps : (kind : Kind) (value : ℕ) (old : Fields) → IsTrue (leb value 1200000) → IsOfKind kind old → IsOfKind kind (item_with_value value old)
unfolding is_of_kind
value_keeps kind value old ranged of =
    and (is_possible kind) _ (left (is_possible kind) (fits_kind kind old) of)
    (fitting kind value old ranged (right (is_possible kind) (fits_kind kind old) of))

given_keeps : (kind : Kind) (known : Name) (d : Data) (old new : Fields) → with_given kind known d old ≡ Some new → IsOfKind kind old → IsOfKind kind new
unfolding with_given
given_keeps kind name.Tag d old new is of = mapped (IsOfKind kind) (λ level. old) (named levels d) (λ level at. of) new is
given_keeps kind name.ListType d old new is of = mapped (IsOfKind kind) (λ type. old) (named list_types d) (λ type at. of) new is
given_keeps kind name.Value d old new is of =
    mapped (IsOfKind kind) (λ value. item_with_value value old) (number_within 0 1200000 d)
    (λ value at. value_keeps kind value old (up_to 1200000 d value at) of) new is
given_keeps kind known d old new is of = member_keeps kind (settable known d) old new (settable-ranged known d) is of

given_by_keeps : (kind : Kind) (known : Name) (o : Option Data) (old new : Fields) → given_by kind known o old ≡ Some new → IsOfKind kind old
    → IsOfKind kind new
unfolding given_by
given_by_keeps kind known None old new is of = let same : old ≡ new = cc in subst (IsOfKind kind) same of
given_by_keeps kind known (Some d) old new is of = null_keeps (is_some (as_null d)) is
  where
    null_keeps : (test : Bool) → (if test then Some old else with_given kind known d old) ≡ Some new → IsOfKind kind new
    null_keeps true is = let same : old ≡ new = cc in subst (IsOfKind kind) same of
    null_keeps false is = given_keeps kind known d old new is of

after : (kind : Kind) (text : List ℕ) (go_on : Fields → Result Fields (List ℕ)) (new : Fields)
    → ((mid : Fields) → go_on mid ≡ Ok new → IsOfKind kind mid → IsOfKind kind new)
    → (o : Option Fields) → ((mid : Fields) → o ≡ Some mid → IsOfKind kind mid) → or_bad text go_on o ≡ Ok new → IsOfKind kind new
after kind text go_on new keeps None of is = absurd (cc)
after kind text go_on new keeps (Some mid) of is = keeps mid is (of mid refl)

pub fields_keep : (kind : Kind) (rows : List (List ℕ × Name)) (find : List ℕ → Option Data) (old new : Fields) → fields_with kind rows find old ≡ Ok new
    → IsOfKind kind old → IsOfKind kind new
fields_keep kind [] find old new is of = let same : old ≡ new = cc in subst (IsOfKind kind) same of
fields_keep kind (row ∷ rows) find old new is of =
    let go_on = fields_with kind rows find in
    let P : Bool → Type 0 = λ test. (if test then or_bad row.0 go_on (given_by kind row.1 (find row.0) old) else go_on old) ≡ Ok new → IsOfKind kind new in
    elim (takes kind row.1) as P [
      | true ↦
          λ is. after kind row.0 go_on new (λ mid. fields_keep kind rows find mid new) (given_by kind row.1 (find row.0) old)
          (λ mid at. given_by_keeps kind row.1 (find row.0) old mid at of) is
      | false ↦ λ is. fields_keep kind rows find old new is of
    ] is

pub default_of_kind : (kind : Kind) → IsTrue (is_possible kind) → IsOfKind kind (default_fields kind)
unfolding is_of_kind fits_kind is_element_of is_text_of are_text_fields are_tab_fields are_embed_fields are_bare is_tab_text is_normal is_extra_of is_plain
    is_list_extra is_item_extra is_link_extra is_cell_extra is_span default_fields default_extra
default_of_kind of possible = and (is_possible of) _ possible (fit of)
  where
    fit : (of : Kind) → IsTrue (fits_kind of (default_fields of))
    fit kind.Text = refl
    fit _ = refl

-- what an object gives a node of a kind that a node can be are fields of the kind
pub document_fields_of_kind : (kind : Kind) (d : Data) (new : Fields) → IsTrue (is_possible kind) → document_fields kind d ≡ Ok new → IsOfKind kind new
unfolding document_fields fields_given
document_fields_of_kind kind d new possible is = fields_keep kind names (λ name. get name d) (default_fields kind) new is (default_of_kind kind possible)
