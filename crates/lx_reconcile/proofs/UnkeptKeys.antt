-- The nodes that aren't kept, by their keys: those that `unkept` counts are all of them, each once.
use Rattle.std.proofs.Common.{◌≡◌, ◌∙◌, ◌+◌, ◌<◌, ℕ, Bool, true, false, cond, eqb, ◌||◌, ◌⊎◌, length, List, [], ◌∷◌, ◌++◌, Option, None, Some, option_map, is_some, inl, inr, refl, sym, ap, subst, arith, eq-eqb, append-nil, length-append}
use Rattle.std.proofs.lemmas.Bool.{cases_Bool, cases_lt, and_parts, ltb-true, lt-ltb}
use Rattle.std.proofs.Math.Bool.{or-false}
use Rattle.std.proofs.lemmas.Bool.Decides.{eqb_tells}
use Rattle.std.proofs.lemmas.Option.{same_Some}
use Rattle.lx_trees.specs.Trees.{nil, tree}
use Rattle.lx_trees.specs.NamedTrees.{IsDistinct, preorder, total}
use Rattle.lx_trees.specs.Siblings.{is_among, NoRepeats}
use Rattle.lx_trees.specs.Spots.{Spot, parent_at}
use Rattle.lx_trees.proofs.NamedTrees.{is_among-preorder, length-preorder, NoRepeats-preorder}
use Rattle.lx_trees.proofs.Siblings.{is_among-append, NoRepeats-append}
use Rattle.lx_node.specs.declared.kind.Kind.TheVariants.{Root}
use Rattle.lx_host.specs.declared.tag.Tag.{Tag}
use Rattle.lx_forest.specs.Forest.{Label, Forest}
use Rattle.lx_forest.specs.Lookups.{key_of, alone, trees_of, spot, count, has, IsForest}
use Rattle.lx_forest.proofs.Edits.{parent_of-root, is_some-spot, key-spot}
use Rattle.lx_forest.proofs.Lookups.{alone-spot}
use Rattle.lx_links.specs.Stands.{Sound}
use Rattle.lx_render.specs.Render.{tag_of}
use Rattle.lx_reconcile.specs.Allowed.{places_of, is_tag, is_parent, is_only, IsKept, kept_root, kept_below, AreUnkept, unkept}
use Rattle.lx_reconcile.proofs.Attached.{tree_order, tree_sound, tree_there}
use Rattle.lx_reconcile.proofs.Kept.{places_at, places_of-absent, places_of-spot, has_place}
use Rattle.lx_reconcile.proofs.UnkeptNodes.{is_tag-Decides, same_parent, kept_here}

-- ---- the keys of those that are counted

abbrev unkept_keys : Forest → Option ℕ → Forest → List ℕ
unkept_keys old parent nil = []
unkept_keys old parent (tree l below rest) =
    cond (kept_here old parent l) (unkept_keys old (Some l.key) below) (l.key ∷ preorder key_of below) ++ unkept_keys old parent rest

-- of one tree, where it is known whether its first node stays
abbrev own_keys : Bool → Forest → Label → Forest → List ℕ
own_keys stays old l below = cond stays (unkept_keys old (Some l.key) below) (l.key ∷ preorder key_of below)

length-unkept_keys : (old : Forest) (p : Option ℕ) (f : Forest) → length (unkept_keys old p f) ≡ unkept old p f
length-unkept_keys old p nil = refl
length-unkept_keys old p (tree l b t) =
    grind (
      arith,
      length-append (own_keys (kept_here old p l) old l b) (unkept_keys old p t),
      length-unkept_keys old (Some l.key) b,
      length-preorder key_of b,
      length-unkept_keys old p t,
    )

-- what isn't in the trees isn't among them
own_absent : (stays : Bool) (old : Forest) (l : Label) (b : Forest) (q : ℕ) → is_among q (unkept_keys old (Some l.key) b) ≡ false → count q (tree l b nil) ≡ 0
    → is_among q (own_keys stays old l b) ≡ false
own_absent true old l b q below none = below
own_absent false old l b q below none = grind (arith, none, is_among-preorder key_of q b, eqb_tells l.key q)

unkept_keys-absent : (old : Forest) (p : Option ℕ) (f : Forest) (q : ℕ) → count q f ≡ 0 → is_among q (unkept_keys old p f) ≡ false
unkept_keys-absent old p nil q none = refl
unkept_keys-absent old p (tree l b t) q none =
    grind (
      arith,
      none,
      is_among-append q (own_keys (kept_here old p l) old l b) (unkept_keys old p t),
      own_absent (kept_here old p l) old l b q,
      unkept_keys-absent old (Some l.key) b q,
      unkept_keys-absent old p t q,
    )

-- each of them is in the trees
own_there : (stays : Bool) (old : Forest) (l : Label) (b : Forest) (q : ℕ) → is_among q (own_keys stays old l b) ≡ true → 0 < count q (tree l b nil)
own_there stays old l b q e = grind (arith, e, own_absent stays old l b q, unkept_keys-absent old (Some l.key) b q)

once_own : (stays : Bool) (l : Label) (b : Forest) (below : List ℕ) → IsDistinct key_of (tree l b nil) → NoRepeats below
    → NoRepeats (cond stays below (l.key ∷ preorder key_of b))
once_own true l b below once e = e
once_own false l b below once e = (
  grind (arith, once l.key, eqb_tells l.key l.key, is_among-preorder key_of l.key b),
  NoRepeats-preorder key_of b (λ q. omega (arith, once q)),
)

NoRepeats-unkept_keys : (old : Forest) (p : Option ℕ) (f : Forest) → IsDistinct key_of f → NoRepeats (unkept_keys old p f)
NoRepeats-unkept_keys old p nil once = tt
NoRepeats-unkept_keys old p (tree l b t) once =
    let stays = kept_here old p l in
    let below = unkept_keys old (Some l.key) b in
    NoRepeats-append (own_keys stays old l b) (unkept_keys old p t)
    (once_own stays l b below (λ q. omega (arith, once q)) (NoRepeats-unkept_keys old (Some l.key) b (λ q. omega (arith, once q))))
    (NoRepeats-unkept_keys old p t (λ q. omega (arith, once q)))
    (λ q e. unkept_keys-absent old p t q (omega (arith, once q, own_there stays old l b q e)))

-- the first of trees has the key, or is none of those that have it
is_own : (k q : ℕ) → (k ≡ q) ⊎ (cond {A = ℕ} (eqb k q) 1 0 ≡ 0)
is_own k q = grind (arith, eqb_tells k q)

-- ---- where nodes are

-- these trees are below this parent
abbrev StandBelow : Forest → Option ℕ → Forest → Type 0
StandBelow new p g = (q : ℕ) → 0 < count q g → places_of q None new ≡ places_of q p g

stand_first : (new : Forest) (p : Option ℕ) (l : Label) (b t : Forest) → IsDistinct key_of (tree l b t) → StandBelow new p (tree l b t)
    → places_of l.key None new ≡ (p, tag_of l.kind l.fields) ∷ []
stand_first new p l b t once at =
    grind (
      arith,
      at l.key,
      once l.key,
      eqb_tells l.key l.key,
      places_of-absent l.key (Some l.key) b,
      places_of-absent l.key p t,
    )

stand_below : (new : Forest) (p : Option ℕ) (l : Label) (b t : Forest) → IsDistinct key_of (tree l b t) → StandBelow new p (tree l b t)
    → StandBelow new (Some l.key) b
stand_below new p l b t once at q inside = grind (arith, inside, once q, at q, places_of-absent q p t, append-nil (places_of q (Some l.key) b))

stand_alone : (new : Forest) (p : Option ℕ) (l : Label) (b t : Forest) → IsDistinct key_of (tree l b t) → StandBelow new p (tree l b t)
    → StandBelow new p (tree l b nil)
stand_alone new p l b t once at q own =
    at q (omega (arith, own))
    ∙ ap (λ xs. cond (eqb l.key q) ((p, tag_of l.kind l.fields) ∷ []) [] ++ places_of q (Some l.key) b ++ xs)
    (places_of-absent q p t (omega (arith, once q, own)))

stand_behind : (new : Forest) (p : Option ℕ) (l : Label) (b t : Forest) → IsDistinct key_of (tree l b t) → StandBelow new p (tree l b t) → StandBelow new p t
stand_behind new p l b t once at q behind = grind (arith, behind, once q, at q, places_of-absent q (Some l.key) b)

-- ---- which of them are kept

-- whether this node isn't kept is this
data Tells (old new : Forest) (q : ℕ) : Bool → Type 0 where
  tells_other : (IsKept old new q → ⊥) → Tells old new q true
  tells_kept : IsKept old new q → Tells old new q false

-- the one place of a node, where it is kept, is that of a kept parent's child in both trees
record IsKeptAt (old new : Forest) (q k : ℕ) (tag : Tag) : Type 0 where
  parent : IsKept old new k
  was : places_of q None old ≡ (Some k, tag) ∷ []

kept_at : (old new : Forest) (q k : ℕ) (tag : Tag) → IsForest new → places_of q None new ≡ (Some k, tag) ∷ [] → IsKept old new q → IsKeptAt old new q k tag
kept_at old new _ k tag h at kept_root =
    absurd (let up = (has_place new 0 k tag h at).parent in let none = parent_of-root new h in cc)
kept_at old new _ k tag h at (kept_below q p other kept was is) =
    let list : (Some p, other) ∷ [] ≡ (Some k, tag) ∷ [] = sym is ∙ at in
    let place : (Some p, other) ≡ (Some k, tag) = cc in
    let same : p ≡ k = same_Some p k (ap (λ (x : Option ℕ × Tag). x.0) place) in
    record { parent = subst (IsKept old new) same kept; was = was ∙ ap (λ x. x ∷ []) place }

-- what the test of places says
only_one : (p : Option ℕ) (tag : Tag) (places : List (Option ℕ × Tag)) → is_only p tag places ≡ true → places ≡ (p, tag) ∷ []
only_one p tag [] e = absurd (cc)
only_one p tag (place ∷ []) e =
    let both = and_parts (is_parent place.0 p) (is_tag place.1 tag) e in
    let up : place.0 ≡ p = same_parent place.0 p both.0 in
    let own : place.1 ≡ tag = (is_tag-Decides place.1 tag).0 both.1 in
    ap (λ o. (o, place.1) ∷ []) up ∙ ap (λ t. (p, t) ∷ []) own
only_one p tag (place ∷ more ∷ rest) e = absurd (cc)

is_one : (k : ℕ) (tag : Tag) (places : List (Option ℕ × Tag)) → places ≡ (Some k, tag) ∷ [] → is_only (Some k) tag places ≡ true
is_one k tag places e = ap (is_only (Some k) tag) e ∙ rw (eq-eqb k k refl, (is_tag-Decides tag tag).1 refl) refl

module _ (old new : Forest) (h : IsForest new) where
  -- below a node that isn't kept none is
  none_kept : (k : ℕ) (g : Forest) → IsDistinct key_of g → StandBelow new (Some k) g → (IsKept old new k → ⊥) → (q : ℕ) → 0 < count q g → IsKept old new q → ⊥
  none_kept k nil once at out q there kept = absurd (omega (arith, there))
  none_kept k (tree l b t) once at out q there kept =
      let first : IsKept old new l.key → ⊥ =
      λ own. out (kept_at old new l.key k (tag_of l.kind l.fields) h (stand_first new (Some k) l b t once at) own).parent in
      elim (is_own l.key q) [
        | inl own ↦ first (subst (IsKept old new) (sym own) kept)
        | inr other ↦ elim (cases_lt 0 (count q b)) [
          | inl inside ↦ none_kept l.key b (λ q. omega (arith, once q)) (stand_below new (Some k) l b t once at) first q inside kept
          | inr behind ↦ none_kept k t (λ q. omega (arith, once q)) (stand_behind new (Some k) l b t once at) out q (omega (arith, there, other, behind)) kept
        ]
      ]

  -- of the first of these trees, where the parent is kept
  tell_first : (k : ℕ) (l : Label) (b : Forest) → IsDistinct key_of (tree l b nil) → StandBelow new (Some k) (tree l b nil) → IsKept old new k
      → (IsKept old new l.key → (q : ℕ) → 0 < count q b → Tells old new q (is_among q (unkept_keys old (Some l.key) b)))
      → (q : ℕ) → 0 < count q (tree l b nil) → Tells old new q (is_among q (own_keys (kept_here old (Some k) l) old l b))
  tell_first k l b once at kept below q there =
      let tag = tag_of l.kind l.fields in
      let place = stand_first new (Some k) l b nil once at in
      let among = λ (stays : Bool). is_among q (own_keys stays old l b) in
      elim (cases_Bool (kept_here old (Some k) l)) [
        | inl stays ↦
            let own : IsKept old new l.key = kept_below l.key k tag kept (only_one (Some k) tag (places_of l.key None old) stays) place in
            elim (cases_lt 0 (count q b)) [
              | inl inside ↦ subst (Tells old new q) (sym (ap among stays)) (below own q inside)
              | inr out ↦ elim (is_own l.key q) [
                | inl same ↦
                    subst (Tells old new q) (sym (ap among stays ∙ unkept_keys-absent old (Some l.key) b q (omega (arith, out))))
                    (tells_kept (subst (IsKept old new) same own))
                | inr other ↦ absurd (omega (arith, there, out, other))
              ]
            ]
        | inr goes ↦
            let out : IsKept old new l.key → ⊥ =
            λ own. let is = is_one k tag (places_of l.key None old) (kept_at old new l.key k tag h place own).was in absurd (cc) in
            let all : is_among q (l.key ∷ preorder key_of b) ≡ true = grind (arith, there, is_among-preorder key_of q b, eqb_tells l.key q) in
            let other : IsKept old new q → ⊥ = λ own. elim (is_own l.key q) [
              | inl same ↦ out (subst (IsKept old new) (sym same) own)
              | inr more ↦ none_kept l.key b (λ q. omega (arith, once q)) (stand_below new (Some k) l b nil once at) out q (omega (arith, there, more)) own
            ] in
            subst (Tells old new q) (sym (ap among goes ∙ all)) (tells_other other)
      ]

  tell_kept : (k : ℕ) (g : Forest) → IsDistinct key_of g → StandBelow new (Some k) g → IsKept old new k → (q : ℕ) → 0 < count q g
      → Tells old new q (is_among q (unkept_keys old (Some k) g))
  tell_kept k nil once at kept q there = absurd (omega (arith, there))
  tell_kept k (tree l b t) once at kept q there =
      let stays = kept_here old (Some k) l in
      let first = own_keys stays old l b in
      let rest = unkept_keys old (Some k) t in
      elim (cases_lt 0 (count q t)) [
        | inl behind ↦
            let below = unkept_keys-absent old (Some l.key) b q (omega (arith, once q, behind)) in
            subst (Tells old new q)
            (sym (is_among-append q first rest ∙ ap (λ c. c || is_among q rest) (own_absent stays old l b q below (omega (arith, once q, behind)))))
            (tell_kept k t (λ q. omega (arith, once q)) (stand_behind new (Some k) l b t once at) kept q behind)
        | inr before ↦
            subst (Tells old new q)
            (sym (is_among-append q first rest ∙ ap (λ c. is_among q first || c) (unkept_keys-absent old (Some k) t q (omega (arith, before)))
            ∙ or-false (is_among q first)))
            (tell_first k l b (λ q. omega (arith, once q)) (stand_alone new (Some k) l b t once at) kept
            (λ own. tell_kept l.key b (λ q. omega (arith, once q)) (stand_below new (Some k) l b t once at) own)
            q (omega (arith, there, before)))
      ]

  is_other : (q : ℕ) (unkept : Bool) → Tells old new q unkept → unkept ≡ true → IsKept old new q → ⊥
  is_other q true (tells_other out) e = out
  is_other q false (tells_kept kept) e = absurd (cc)

  is_told : (q : ℕ) (unkept : Bool) → Tells old new q unkept → (IsKept old new q → ⊥) → unkept ≡ true
  is_told q true (tells_other out) other = refl
  is_told q false (tells_kept kept) other = absurd (other kept)

-- ---- of whole trees

kind_at_root : (f : Forest) (x : Spot Label) → IsForest f → spot f 0 ≡ Some x → x.label.kind ≡ Root
kind_at_root f x h at =
    same_Some x.label.kind Root (sym (ap (λ o. option_map (λ (l : Label). l.kind) (option_map (λ (s : Spot Label). s.label) o)) at) ∙ h.root)

root_here : (old : Forest) (l : Label) → IsForest old → l.key ≡ 0 → l.kind ≡ Root → kept_here old None l ≡ true
root_here old l h key kind =
    ap (λ q. is_only None (tag_of l.kind l.fields) (places_of q None old)) key
    ∙ ap (is_only None (tag_of l.kind l.fields)) (places_of-spot 0 None old (h.once 0))
    ∙ from_spot (spot old 0) refl
  where
    from_spot : (o : Option (Spot Label)) → spot old 0 ≡ o → is_only None (tag_of l.kind l.fields) (places_at o) ≡ true
    from_spot None at =
        absurd (let root = h.root in let none = ap (λ o. option_map (λ (l : Label). l.kind) (option_map (λ (s : Spot Label). s.label) o)) at in cc)
    from_spot (Some s) at =
        let up : s.parent ≡ None = sym (ap parent_at at) ∙ parent_of-root old h in
        let own : s.label.kind ≡ Root = kind_at_root old s h at in
        rw (up, own, kind) ((is_tag-Decides (tag_of Root l.fields) (tag_of Root l.fields)).1 refl)

told_tree : (old new : Forest) (l : Label) (b : Forest) → IsForest old → IsForest new → new ≡ tree l b nil → l.key ≡ 0 → l.kind ≡ Root
    → (keys : List ℕ) × AreUnkept old new keys × (length keys ≡ unkept old None new)
told_tree old new l b g h whole key kind =
    let keys = unkept_keys old (Some 0) b in
    let counts : (q : ℕ) → count q new ≡ count q (tree l b nil) = λ q. ap (count q) whole in
    let once : IsDistinct key_of (tree l b nil) = λ q. omega (arith, h.once q, counts q) in
    let at : StandBelow new (Some 0) b =
    subst (λ k. StandBelow new (Some k) b) key (stand_below new None l b nil once (λ q there. ap (places_of q None) whole)) in
    let tells = tell_kept old new h 0 b (λ q. omega (arith, once q)) at kept_root in
    let inside : (q : ℕ) → is_among q keys ≡ true → 0 < count q b = λ q e. grind (arith, e, unkept_keys-absent old (Some 0) b q) in
    let stays = root_here old l g key kind in
    let same : unkept old None new ≡ unkept old (Some 0) b =
    ap (unkept old None) whole ∙ ap (λ c. cond c (unkept old (Some l.key) b) (1 + total b) + 0) stays ∙ ap (λ k. unkept old (Some k) b + 0) key
    ∙ omega arith in (
      keys,
      record {
        each = λ q. (
          λ e. (lt-ltb 0 (count q new) (omega (arith, inside q e, counts q)), is_other old new h q (is_among q keys) (tells q (inside q e)) e),
          λ is. elim (cases_lt 0 (count q b)) [
            | inl there ↦ is_told old new h q (is_among q keys) (tells q there) is.1
            | inr out ↦ elim (is_own l.key q) [
              | inl own ↦ absurd (is.1 (subst (IsKept old new) (sym key ∙ own) kept_root))
              | inr other ↦ absurd (omega (arith, ltb-true 0 (count q new) is.0, counts q, out, other))
            ]
          ],
        );
        once = NoRepeats-unkept_keys old (Some 0) b (λ q. omega (arith, once q));
      },
      length-unkept_keys old (Some 0) b ∙ sym same,
    )

-- what is counted between the roots' trees of two forests
pub counted_told : (f g : Forest) (n : ℕ) → has 0 f ≡ true → has 0 g ≡ true → Sound f → Sound g → n ≡ unkept (alone 0 f) None (alone 0 g)
    → (keys : List ℕ) × AreUnkept (alone 0 f) (alone 0 g) keys × (length keys ≡ n)
counted_told f g n was is s t number = from_spot (spot g 0) refl where
  ordered : (f : Forest) → has 0 f ≡ true → Sound f → IsForest (alone 0 f)
  ordered f there s = tree_order (alone 0 f) 0 (tree_sound f s) (tree_there (alone 0 f) (tree_there f there))

  from_spot : (o : Option (Spot Label)) → spot g 0 ≡ o → (keys : List ℕ) × AreUnkept (alone 0 f) (alone 0 g) keys × (length keys ≡ n)
  from_spot None at = absurd (let none : is_some (spot g 0) ≡ false = ap is_some at in let there = is_some-spot g 0 in cc)
  from_spot (Some x) at =
      let h = tree_order g 0 t (tree_there g is) in
      let told =
      told_tree (alone 0 f) (alone 0 g) x.label (trees_of g x.children) (ordered f was s) (ordered g is t) (alone-spot g 0 x h at) (key-spot g 0 x at)
      (kind_at_root g x h at) in
      (told.0, told.1, told.2 ∙ sym number)
