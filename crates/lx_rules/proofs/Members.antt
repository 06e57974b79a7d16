-- Members that are written one after another: what each place keeps.
use Rattle.std.proofs.Common.{◌≡◌, ◌∙◌, ℕ, Bool, true, false, ◌||◌, not, List, [], ◌∷◌, length, refl, sym, ap, cond, ◌⊎◌, inl, inr}
use Rattle.std.specs.List.{list_any}
use Rattle.std.proofs.lemmas.List.{nil_from_length}
use Rattle.lx_node.specs.declared.fields.Extra.{Extra}
use Rattle.lx_node.specs.declared.fields.Extra.TheVariants as extra
use Rattle.lx_node.specs.declared.fields.TextFields.{TextFields}
use Rattle.lx_node.specs.declared.fields.ElementFields.{ElementFields}
use Rattle.lx_node.specs.declared.fields.Fields.{Fields}
use Rattle.lx_node.specs.declared.fields.Fields.TheVariants as fields
use Rattle.lx_node.specs.Same.{same_fields}
use Rattle.lx_node.proofs.Same.{same_fields-Decides}
use Rattle.lx_step.specs.declared.member.Member.{Member}
use Rattle.lx_step.specs.declared.member.Member.TheVariants.{Other}
use Rattle.lx_step.specs.Patches.{with_extra, element_with_member, text_with_member, with_source, with_member, with_members}
use Rattle.lx_rules.specs.Places.{rewrites}

-- ---- of two members, one place keeps the later one, and two places keep both

abbrev Meet : {A : Type 0} → (Member → A → A) → Member → Member → A → Type 0
Meet write a b old = write b (write a old) ≡ cond (rewrites a b) (write b old) (write a (write b old))

abbrev with_its : ElementFields → Extra → ElementFields
with_its old x = record old { extra = x }

meet_in_element : (a b : Member) (old : ElementFields) (x : Extra) → Meet element_with_member a b (with_its old x)
unfolding rewrites element_with_member with_extra
meet_in_element (Other n) b old x =
    elim b as (λ c. Meet element_with_member (Other n) c (with_its old x)) [
      | Other m ↦ elim x as (λ y. Meet element_with_member (Other n) (Other m) (with_its old y)) [ extra.Plain ↦ refl | _ ↦ refl ]
      | c ↦ elim x as (λ y. Meet element_with_member (Other n) c (with_its old y)) [ extra.Plain ↦ refl | _ ↦ refl ]
    ]
meet_in_element a b old x =
    elim b as (λ c. Meet element_with_member a c (with_its old x)) [
      | Other m ↦ elim x as (λ y. Meet element_with_member a (Other m) (with_its old y)) [ extra.Plain ↦ refl | _ ↦ refl ]
      | c ↦ elim x as (λ y. Meet element_with_member a c (with_its old y)) [ extra.Plain ↦ refl | _ ↦ refl ]
    ]

meet_in_text : (a b : Member) (old : TextFields) → Meet text_with_member a b old
unfolding rewrites text_with_member
meet_in_text (Other n) b old = elim b as (λ c. Meet text_with_member (Other n) c old) [ Other m ↦ refl | _ ↦ refl ]
meet_in_text a b old = elim b as (λ c. Meet text_with_member a c old) [ Other m ↦ refl | _ ↦ refl ]

meet_in_source : (a b : Member) (old : List ℕ) → Meet with_source a b old
unfolding rewrites with_source
meet_in_source (Other n) b old = elim b as (λ c. Meet with_source (Other n) c old) [ Other m ↦ refl | _ ↦ refl ]
meet_in_source a b old = elim b as (λ c. Meet with_source a c old) [ Other m ↦ refl | _ ↦ refl ]

under : {A B : Type 0} (f : A → B) (t : Bool) (x y : A) → f (cond t x y) ≡ cond t (f x) (f y)
under f true x y = refl
under f false x y = refl

bare : (t : Bool) → fields.Bare ≡ cond t fields.Bare fields.Bare
bare true = refl
bare false = refl

meet : (a b : Member) (f : Fields) → Meet with_member a b f
unfolding with_member
meet a b (fields.Element old) = ap (λ x. fields.Element x) (meet_in_element a b old old.extra) ∙ under (λ x. fields.Element x) (rewrites a b) _ _
meet a b (fields.Text old) = ap (λ x. fields.Text x) (meet_in_text a b old) ∙ under (λ x. fields.Text x) (rewrites a b) _ _
meet a b (fields.Embed old) = ap (λ x. fields.Embed x) (meet_in_source a b old) ∙ under (λ x. fields.Embed x) (rewrites a b) _ _
meet a b fields.Bare = bare (rewrites a b)

rewrites-itself : (m : Member) → rewrites m m ≡ true
unfolding rewrites
rewrites-itself (Other n) = refl
rewrites-itself _ = refl

-- ---- a member before others

passed : (m : Member) (ms : List Member) (f : Fields)
    → with_members ms (with_member m f) ≡ cond (list_any (rewrites m) ms) (with_members ms f) (with_member m (with_members ms f))
passed m [] f = refl
passed m (b ∷ ms) f =
    ap (with_members ms) (meet m b f)
    ∙ elim (rewrites m b) as
    (λ t. with_members ms (cond t (with_member b f) (with_member m (with_member b f)))
    ≡ cond (t || list_any (rewrites m) ms) (with_members ms (with_member b f)) (with_member m (with_members ms (with_member b f)))) [
      | true ↦ refl
      | false ↦ passed m ms (with_member b f)
    ]

rewritten : (m : Member) (ms : List Member) (f : Fields) → list_any (rewrites m) ms ≡ true → with_members ms f ≡ with_members (m ∷ ms) f
rewritten m ms f e = sym (passed m ms f ∙ ap (λ t. cond t (with_members ms f) (with_member m (with_members ms f))) e)

changed : (m : Member) (ms : List Member) (f : Fields) → list_any (rewrites m) ms ≡ false → with_members (m ∷ ms) f ≡ f → with_member m f ≡ f
changed m ms f e same =
    let last : with_member m (with_members ms f) ≡ f =
    sym (passed m ms f ∙ ap (λ t. cond t (with_members ms f) (with_member m (with_members ms f))) e) ∙ same in
    let twice : with_member m (with_member m (with_members ms f)) ≡ with_member m (with_members ms f) =
    meet m m (with_members ms f)
    ∙ ap (λ t. cond t (with_member m (with_members ms f)) (with_member m (with_member m (with_members ms f)))) (rewrites-itself m) in
    ap (with_member m) (sym last) ∙ twice ∙ last

-- ---- what is left of the members, from a place on

module _ (rest all : List Member) (f : Fields) (left : with_members rest f ≡ with_members all f) where
  -- what none rewrites stays, and with it a difference
  pub differing : (m : Member) (ms : List Member) → rest ≡ m ∷ ms → list_any (rewrites m) ms ≡ false → (with_member m f ≡ f → ⊥)
      → true ≡ not (same_fields (with_members all f) f)
  differing m ms is e h =
      elim (same_fields (with_members all f) f) as (λ t. (t ≡ true → with_members all f ≡ f) → true ≡ not t) [
        | true ↦ λ same. absurd (h (changed m ms f e (ap (λ xs. with_members xs f) (sym is) ∙ left ∙ same refl)))
        | false ↦ λ same. refl
      ] (same_fields-Decides (with_members all f) f).0

  -- a member that changes nothing, or is rewritten, may be left out
  pub left_out : (m : Member) (ms : List Member) → rest ≡ m ∷ ms → (list_any (rewrites m) ms ≡ true) ⊎ (with_member m f ≡ f)
      → with_members ms f ≡ with_members all f
  left_out m ms is (inl e) = rewritten m ms f e ∙ ap (λ xs. with_members xs f) (sym is) ∙ left
  left_out m ms is (inr e) = ap (with_members ms) (sym e) ∙ ap (λ xs. with_members xs f) (sym is) ∙ left

  pub alike : length rest ≡ 0 → false ≡ not (same_fields (with_members all f) f)
  alike none =
      let same : with_members all f ≡ f = sym left ∙ ap (λ xs. with_members xs f) (nil_from_length rest none) in
      ap not (sym ((same_fields-Decides (with_members all f) f).1 same))
