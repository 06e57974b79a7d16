-- A leaf that says nothing is taken out: the keys that are left, and what they say.
use Rattle.lx_caret_laws.proofs.ReadLevels.{read-leaf}
use Rattle.lx_caret_laws.proofs.KeysLeft.{holder_there, keys_left}
use Rattle.lx_caret_laws.proofs.ReadOver.{said-same}
use Rattle.lx_caret_laws.specs.Reading.{said, said_by, read_in}
use Rattle.lx_draft.proofs.Gaps.{child_of}
use Rattle.lx_draft.proofs.Touched.{is_some-kind_of}
use Rattle.lx_draft.specs.Selecting.{text_of}
use Rattle.lx_forest.proofs.Lookups.{children_of-take_out, kind_of-take_out, label_of-take_out}
use Rattle.lx_forest.proofs.Order.{IsForest-take_out}
use Rattle.lx_forest.specs.Edits.{take_out}
use Rattle.lx_forest.specs.Forest.{Forest, Label}
use Rattle.lx_forest.specs.Lookups.{IsForest, children_of, has, is_within, keys_within}
use Rattle.lx_trees.specs.Siblings.{is_among, names_without}
use Rattle.std.proofs.Common.{Bool, List, [], ap, arith, cond, eqb, false, inl, inr, not, option_map, refl, sym, true, ℕ, ◌++◌, ◌∙◌, ◌∷◌, ◌≡◌, ◌≢◌}
use Rattle.std.proofs.lemmas.Bool.Decides.{eqb_tells}
use Rattle.std.proofs.lemmas.List.Elements.{filter-append}
use Rattle.std.specs.Prelude.{filter, is_some}

abbrev pub other_than : ℕ → ℕ → Bool
other_than c x = not (eqb x c)

without-filter : (c : ℕ) (xs : List ℕ) → names_without c xs ≡ filter (other_than c) xs
without-filter c [] = refl
without-filter c (x ∷ xs) = grind (arith, without-filter c xs, eqb_tells x c)

said-filter : (f : Forest) (c : ℕ) (xs : List ℕ) → said f c ≡ [] → said_by f (filter (other_than c) xs) ≡ said_by f xs
said-filter f c [] silent = refl
said-filter f c (x ∷ xs) silent = elim (eqb_tells x c) [
  | inl own ↦ rw own.0 (said-filter f c xs silent ∙ sym (ap (λ t. t ++ said_by f xs) (ap (said f) own.1 ∙ silent)))
  | inr other ↦ rw other.0 (ap (λ t. said f x ++ t) (said-filter f c xs silent))
]

absent-filter : (c s : ℕ) (xs : List ℕ) → is_among s xs ≡ false → is_among s (filter (other_than c) xs) ≡ false
absent-filter c s [] out = refl
absent-filter c s (x ∷ xs) out = grind (arith, out, eqb_tells x c, absent-filter c s xs)

-- a list of keys that is cut at s is so in another forest, with the same said on either side
pub record CutAlike (f g : Forest) (s q : ℕ) (left rest : List ℕ) : Type 0 where
  pub front : List ℕ
  pub back : List ℕ
  pub keys : keys_within g q ≡ front ++ (s ∷ back)
  pub ahead : said_by g front ≡ said_by f left
  pub behind : said_by g back ≡ said_by f rest
  pub away : is_among s front ≡ false

pub said_of_taken : (c : ℕ) (f : Forest) (q : ℕ) → IsForest f → said (take_out c f) q ≡ said f q
said_of_taken c f q h = ap (λ o. text_of (option_map (λ (l : Label). l.fields) o)) (label_of-take_out c f q h)

pub there_of_taken : (c : ℕ) (f : Forest) (q : ℕ) → IsForest f → has q f ≡ true → has q (take_out c f) ≡ true
there_of_taken c f q h so = sym (is_some-kind_of (take_out c f) q) ∙ ap is_some (kind_of-take_out c f q h) ∙ is_some-kind_of f q ∙ so

pub leaf_keys : (c : ℕ) (f : Forest) (q : ℕ) → IsForest f → children_of f c ≡ [] → has q f ≡ true → q ≢ c
    → keys_within (take_out c f) q ≡ filter (other_than c) (keys_within f q)
leaf_keys c f q h leaf so other =
    keys_left (other_than c) f (take_out c f) h (IsForest-take_out c f h)
    (λ x y up goes.
    let at : is_among y (children_of f x) ≡ true = child_of f x y h up in
    let same : x ≡ c = elim (eqb_tells x c) [ inl own ↦ own.1 | inr apart ↦ absurd (grind (arith, apart, goes)) ] in
    absurd (let bad : false ≡ true = sym (ap (is_among y) (ap (children_of f) same ∙ leaf)) ∙ at in cc))
    (λ x so. there_of_taken c f x h so)
    (λ x so stays. children_of-take_out c f x h ∙ without-filter c (children_of f x))
    q so (grind (arith, other, eqb_tells q c))

pub leaf_out : (c s : ℕ) (f : Forest) (q : ℕ) (left rest : List ℕ) → IsForest f → children_of f c ≡ [] → said f c ≡ [] → c ≢ s
    → is_within f q s ≡ true → q ≢ c → keys_within f q ≡ left ++ (s ∷ rest) → is_among s left ≡ false
    → CutAlike f (take_out c f) s q left rest
leaf_out c s f q left rest h leaf silent other inside apart keys out =
    let says : (xs : List ℕ) → said_by (take_out c f) xs ≡ said_by f xs = λ xs. said-same f (take_out c f) xs (λ k at. said_of_taken c f k h) in
    let kept : other_than c s ≡ true = grind (arith, other, eqb_tells s c) in
    record {
      front = filter (other_than c) left;
      back = filter (other_than c) rest;
      keys = leaf_keys c f q h leaf (holder_there f q s inside) apart ∙ ap (filter (other_than c)) keys ∙ filter-append (other_than c) left (s ∷ rest)
          ∙ ap (λ t. filter (other_than c) left ++ t)
          (ap (λ t. cond t (s ∷ filter (other_than c) rest) (filter (other_than c) rest)) kept);
      ahead = says (filter (other_than c) left) ∙ said-filter f c left silent;
      behind = says (filter (other_than c) rest) ∙ said-filter f c rest silent;
      away = absent-filter c s left out;
    }

-- and in no node is less read
pub leaf_reads : (c : ℕ) (f : Forest) (q : ℕ) → IsForest f → children_of f c ≡ [] → said f c ≡ [] → has q f ≡ true
    → read_in (take_out c f) q ≡ read_in f q
leaf_reads c f q h leaf silent so = elim (eqb_tells q c) [
  | inl own ↦
      let none : children_of (take_out c f) q ≡ [] =
      children_of-take_out c f q h ∙ ap (names_without c) (ap (children_of f) own.1 ∙ leaf) in
      read-leaf (take_out c f) q (IsForest-take_out c f h) none ∙ said_of_taken c f q h ∙ sym (read-leaf f q h (ap (children_of f) own.1 ∙ leaf))
  | inr other ↦
      ap (said_by (take_out c f)) (leaf_keys c f q h leaf so other.1)
      ∙ said-same f (take_out c f) (filter (other_than c) (keys_within f q)) (λ k at. said_of_taken c f k h)
      ∙ said-filter f c (keys_within f q) silent
]
