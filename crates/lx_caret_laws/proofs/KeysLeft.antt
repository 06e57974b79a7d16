-- The keys of a tree in preorder, where children went from it, and where a tree in it is.
use Rattle.lx_blocks.proofs.Until.{filter_among}
use Rattle.lx_caret_laws.proofs.InPlace.{keys-level}
use Rattle.lx_draft.proofs.Gaps.{parent_here}
use Rattle.lx_edit_laws.proofs.Reading.{down, spread, spread-same}
use Rattle.lx_edit_laws.proofs.WrapLists.{filter-gone}
use Rattle.lx_forest.proofs.Lookups.{has-child}
use Rattle.lx_forest.specs.Forest.{Forest}
use Rattle.lx_forest.specs.Lookups.{IsForest, alone, children_of, has, is_within, key_of, keys_within, parent_of}
use Rattle.lx_trees.proofs.Cuts.{preorder-cut}
use Rattle.lx_trees.proofs.NamedTrees.{NoRepeats-preorder, alone-absent, count-without-alone}
use Rattle.lx_trees.proofs.Subtrees.{alone-alone}
use Rattle.lx_trees.specs.Siblings.{NoRepeats, is_among}
use Rattle.std.proofs.Common.{Bool, List, Some, [], ap, ap₂, arith, cond, false, inl, inr, refl, sym, true, ℕ, ◌++◌, ◌∙◌, ◌∷◌, ◌≡◌}
use Rattle.std.proofs.lemmas.Bool.{cases_Bool}
use Rattle.std.proofs.lemmas.Bool.Decides.{eqb_tells}
use Rattle.std.proofs.lemmas.List.Elements.{filter-append}
use Rattle.std.specs.Prelude.{filter}
use Rattle.lx_trees.specs.NamedTrees as named
use Rattle.lx_trees.specs.Walks as walks

-- ---- keys that are kept

-- where a key isn't kept, those below it aren't
abbrev pub IsClosed : (ℕ → Bool) → Forest → Type 0
IsClosed keep f = (q c : ℕ) → parent_of f c ≡ Some q → keep q ≡ false → keep c ≡ false

-- what some trees give of which some are kept, where the others give nothing
spread-kept : (keep : ℕ → Bool) (give kept : ℕ → List ℕ) (cs : List ℕ)
    → ((c : ℕ) → is_among c cs ≡ true → keep c ≡ true → filter keep (give c) ≡ kept c)
    → ((c : ℕ) → is_among c cs ≡ true → keep c ≡ false → filter keep (give c) ≡ [])
    → filter keep (spread give cs) ≡ spread kept (filter keep cs)
spread-kept keep give kept [] on off = refl
spread-kept keep give kept (c ∷ cs) on off =
    let own : is_among c (c ∷ cs) ≡ true = grind (arith, eqb_tells c c) in
    let more : filter keep (spread give cs) ≡ spread kept (filter keep cs) =
    spread-kept keep give kept cs (λ x at. on x (grind (arith, at))) (λ x at. off x (grind (arith, at))) in
    filter-append keep (give c) (spread give cs) ∙ elim (cases_Bool (keep c)) [
      | inl stays ↦ rw stays (ap₂ (λ a b. a ++ b) (on c own stays) more)
      | inr goes ↦ rw goes (ap₂ (λ a b. a ++ b) (off c own goes) more)
    ]

-- of a tree whose top isn't kept, no key is
pub none_kept : (keep : ℕ → Bool) (f : Forest) → IsForest f → IsClosed keep f → (q : ℕ) → has q f ≡ true → keep q ≡ false
    → filter keep (keys_within f q) ≡ []
none_kept keep f h closed q = down f h (λ q. has q f ≡ true → keep q ≡ false → filter keep (keys_within f q) ≡ []) (λ q each so no.
    let below : filter keep (spread (keys_within f) (children_of f q)) ≡ spread (λ c. []) (filter keep (children_of f q)) =
    spread-kept keep (keys_within f) (λ c. []) (children_of f q)
    (λ c at on. let up = parent_here f q c h at in absurd (let bad : false ≡ true = sym (closed q c up no) ∙ on in cc))
    (λ c at off. let up = parent_here f q c h at in each c up (has-child f c q up) off) in
    let none : filter keep (children_of f q) ≡ [] = filter-gone keep (children_of f q) (λ c at. closed q c (parent_here f q c h at) no) in
    ap (filter keep) (keys-level f q h so)
    ∙ ap (λ t. cond t (q ∷ filter keep (spread (keys_within f) (children_of f q))) (filter keep (spread (keys_within f) (children_of f q)))) no
    ∙ below ∙ ap (spread (λ c. [])) none) q

-- in g each node that is kept has those of its children that are kept: so its tree has those of its keys
pub keys_left : (keep : ℕ → Bool) (f g : Forest) → IsForest f → IsForest g → IsClosed keep f
    → ((q : ℕ) → has q f ≡ true → has q g ≡ true)
    → ((q : ℕ) → has q f ≡ true → keep q ≡ true → children_of g q ≡ filter keep (children_of f q))
    → (q : ℕ) → has q f ≡ true → keep q ≡ true → keys_within g q ≡ filter keep (keys_within f q)
keys_left keep f g h j closed still left q = down f h (λ q. has q f ≡ true → keep q ≡ true → keys_within g q ≡ filter keep (keys_within f q))
    (λ q each so yes.
    let below : filter keep (spread (keys_within f) (children_of f q)) ≡ spread (keys_within g) (filter keep (children_of f q)) =
    spread-kept keep (keys_within f) (keys_within g) (children_of f q)
    (λ c at on. let up = parent_here f q c h at in sym (each c up (has-child f c q up) on))
    (λ c at off. let up = parent_here f q c h at in none_kept keep f h closed c (has-child f c q up) off) in
    keys-level g q j (still q so) ∙ ap (λ cs. q ∷ spread (keys_within g) cs) (left q so yes)
    ∙ sym (ap (filter keep) (keys-level f q h so)
    ∙ ap (λ t. cond t (q ∷ filter keep (spread (keys_within f) (children_of f q))) (filter keep (spread (keys_within f) (children_of f q)))) yes
    ∙ ap (λ t. q ∷ t) below)) q

-- in both forests each node that is kept has the same children, but for some that aren't kept: so its trees have the same keys but those
pub keys_alike : (keep : ℕ → Bool) (f g : Forest) → IsForest f → IsForest g → IsClosed keep f → IsClosed keep g
    → ((q : ℕ) → has q f ≡ true → has q g ≡ true)
    → ((q : ℕ) → has q f ≡ true → keep q ≡ true → filter keep (children_of g q) ≡ filter keep (children_of f q))
    → (q : ℕ) → has q f ≡ true → keep q ≡ true → filter keep (keys_within g q) ≡ filter keep (keys_within f q)
keys_alike keep f g h j closed closed_after still left q =
    down f h (λ q. has q f ≡ true → keep q ≡ true → filter keep (keys_within g q) ≡ filter keep (keys_within f q))
    (λ q each so yes.
    let kept : ℕ → List ℕ = λ c. filter keep (keys_within f c) in
    let below : filter keep (spread (keys_within f) (children_of f q)) ≡ spread kept (filter keep (children_of f q)) =
    spread-kept keep (keys_within f) kept (children_of f q)
    (λ c at on. refl)
    (λ c at off. let up = parent_here f q c h at in none_kept keep f h closed c (has-child f c q up) off) in
    let after : filter keep (spread (keys_within g) (children_of g q)) ≡ spread (λ c. filter keep (keys_within g c)) (filter keep (children_of g q)) =
    spread-kept keep (keys_within g) (λ c. filter keep (keys_within g c)) (children_of g q)
    (λ c at on. refl)
    (λ c at off. let up = parent_here g q c j at in none_kept keep g j closed_after c (has-child g c q up) off) in
    let same : spread (λ c. filter keep (keys_within g c)) (filter keep (children_of f q)) ≡ spread kept (filter keep (children_of f q)) =
    spread-same (λ c. filter keep (keys_within g c)) kept (filter keep (children_of f q)) (λ c at.
    let in_it : is_among c (children_of f q) ≡ true = grind (arith, at, filter_among keep (children_of f q) c) in
    let on : keep c ≡ true = grind (arith, at, filter_among keep (children_of f q) c) in
    let up = parent_here f q c h in_it in each c up (has-child f c q up) on) in
    let step : (g : Forest) → IsForest g → has q g ≡ true → filter keep (keys_within g q) ≡ q ∷ filter keep (spread (keys_within g) (children_of g q)) =
    λ g j there. ap (filter keep) (keys-level g q j there)
    ∙ ap (λ t. cond t (q ∷ filter keep (spread (keys_within g) (children_of g q))) (filter keep (spread (keys_within g) (children_of g q)))) yes in
    step g j (still q so) ∙ ap (λ t. q ∷ t) (after ∙ ap (spread (λ c. filter keep (keys_within g c))) (left q so yes) ∙ same ∙ sym below)
    ∙ sym (step f h so)) q

-- ---- a tree in another

-- the keys of a tree come one after another among those of a tree that it is in
pub record TreeIn (f : Forest) (b k : ℕ) : Type 0 where
  pub front : List ℕ
  pub back : List ℕ
  pub keys : keys_within f b ≡ front ++ (keys_within f k ++ back)

pub tree_in : (f : Forest) (b k : ℕ) → IsForest f → is_within f b k ≡ true → TreeIn f b k
tree_in f b k h inside =
    let whole = count-without-alone key_of k b f in
    let once : named.IsDistinct key_of (alone b f) = λ q. omega (arith, h.once q, count-without-alone key_of q b f) in
    let cut = preorder-cut key_of (alone b f) k once (grind (arith, inside)) in
    let behind : List ℕ = walks.behind key_of (alone b f) k in
    let same : alone k (alone b f) ≡ alone k f = alone-alone key_of k b f (grind (arith, h.once k, inside, whole)) in
    record {
      front = cut.0;
      back = behind;
      keys = cut.1 ∙ ap (λ t. cut.0 ++ (named.preorder key_of t ++ behind)) same;
    }

-- what has something in its tree is there
pub holder_there : (f : Forest) (q x : ℕ) → is_within f q x ≡ true → has q f ≡ true
holder_there f q x inside = elim (cases_Bool (has q f)) [
  | inl so ↦ so
  | inr free ↦
      let none : is_within f q x ≡ false = ap (λ t. named.has key_of x t) (alone-absent key_of q f (grind (arith, free))) in
      absurd (let bad : false ≡ true = sym none ∙ inside in cc)
]

pub no_repeats_within : (f : Forest) (b : ℕ) → IsForest f → NoRepeats (keys_within f b)
no_repeats_within f b h =
    NoRepeats-preorder key_of (alone b f) (λ q. omega (arith, h.once q, count-without-alone key_of q b f))
