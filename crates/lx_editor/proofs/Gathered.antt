-- The keys of a type that a walk through the tree gathers.
use Rattle.std.proofs.Common.{◌≡◌, ◌∙◌, ℕ, ◌++◌, Bool, true, false, if◌then◌else◌, List, [], ◌∷◌, Option, Some, IfSome, IfNone, filter, refl, sym, ap, append_assoc}
use Rattle.lx_step.specs.declared.rule.TypeRow.{TypeRow}
use Rattle.lx_forest.specs.Forest.{Forest}
use Rattle.lx_forest.specs.Lookups.{depth, from, kind_of, IsForest}
use Rattle.lx_forest.proofs.Walks.{from-root, depth-root}
use Rattle.lx_draft.proofs.Measured.{left_from, IsAt, left-step, at_next}
use Rattle.lx_rules.specs.Types.{is_of_row}
use Rattle.lx_editor.specs.Registered.{of_type}

abbrev pub is_there : TypeRow → Forest → ℕ → Bool
is_there row f q = is_of_row row.0 (kind_of f q)

-- what was gathered and what is left to gather make all of it
pub record IsGathered (row : TypeRow) (f : Forest) (keys : List ℕ) (at : Option (ℕ × ℕ)) : Type 0 where
  pub all : keys ++ filter (is_there row f) (left_from f at) ≡ of_type row f
  pub here : IsAt f at

pub gathered_none : (row : TypeRow) (f : Forest) → IsForest f → IsGathered row f [] (Some (0, 0))
gathered_none row f order = record { all = ap (filter (is_there row f)) (from-root f order); here = depth-root f order }

-- a key more: it is gathered where it is one of the type
one_more : (b : Bool) (keys rest : List ℕ) (q : ℕ) → (if b then keys ++ q ∷ [] else keys) ++ rest ≡ keys ++ (if b then q ∷ rest else rest)
one_more true keys rest q = append_assoc keys (q ∷ []) rest
one_more false keys rest q = refl

pub gathered_more : (row : TypeRow) (f : Forest) (b : Bool) (at o : Option (ℕ × ℕ)) (keys more : List ℕ) (q d : ℕ) → IsGathered row f keys at → at ≡ Some (q, d)
    → b ≡ is_there row f q
    → more ≡ (if b then keys ++ q ∷ [] else keys) → IfSome o (λ next. from f q ≡ q ∷ from f next.0) → IfNone o (from f q ≡ q ∷ [])
    → IfSome o (λ next. depth f next.0 ≡ Some next.1) → IsGathered row f more o
gathered_more row f b at o keys more q d g is test made next last deep = record {
  all =
      ap (λ ks. ks ++ filter (is_there row f) (left_from f o)) made
      ∙ one_more b keys (filter (is_there row f) (left_from f o)) q
      ∙ ap (λ t. keys ++ (if t then q ∷ filter (is_there row f) (left_from f o) else filter (is_there row f) (left_from f o))) test
      ∙ ap (λ ks. keys ++ filter (is_there row f) ks) (sym (left-step o f q next last))
      ∙ ap (λ x. keys ++ filter (is_there row f) (left_from f x)) (sym is)
      ∙ g.all;
  here = at_next o f deep;
}
