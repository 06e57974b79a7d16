-- Where chapters end, and equal nodes.
use Rattle.std.proofs.Common.{◌≡◌, ℕ, ◌/◌, ◌<◌, ◌≤◌, ◌+◌, ◌*◌, List, [], ◌∷◌, length, get_or, Option, None, refl, sym, ap, ◌∙◌, inl, inr, arith}
use Rattle.std.proofs.lemmas.Bool.{cases_eq}
use Rattle.std.specs.FinMap.{get}
use Rattle.std.specs.declared.rc.Rc.{Rc}
use Rattle.lx_node.specs.declared.node.Node.{Node}
use Rattle.lx_store.specs.Parts.{HasEqualParts}
use Rattle.lx_store.specs.Tables.{IsTable, number_at}
use Rattle.lx_store.proofs.Chapters.{mapped, get_none}
use Rattle.lx_store.proofs.Sorted.{all_at, rises, absent_at}

pub equal_parts : (a b : Node) → a ≡ b → HasEqualParts a b
equal_parts a b e = record {
  parent = ap (λ (n : Node). n.parent) e;
  previous = ap (λ (n : Node). n.prev) e;
  next = ap (λ (n : Node). n.next) e;
  first = ap (λ (n : Node). n.first) e;
  last = ap (λ (n : Node). n.last) e;
  size = ap (λ (n : Node). n.size) e;
  kind = ap (λ (n : Node). n.kind) e;
  fields = ap (λ (n : Node). n.fields) e;
}

pub equal_by_parts : (a b : Node) → HasEqualParts a b → a ≡ b
equal_by_parts a b same = rw (same.kind, same.fields, same.parent, same.previous, same.next, same.first, same.last, same.size) refl

module _ {X Z : Type 0} (es : List (ℕ × Rc (List (Option X)) Z)) (n : ℕ) (e : ℕ × Rc (List (Option X)) Z) (table : IsTable es) (size : length es ≡ n + 1)
    (read : e ≡ get_or es n e) where
  last_is : number_at es n e ≡ e.0
  last_is = ap (λ x. x.0) (sym read)

  pub last_small : e.0 < 4194304
  last_small = let h : number_at es n e < 4194304 = all_at (λ number. number < 4194304) es n e table.1 (omega (arith, size)) in omega (arith, h, last_is)

  below_last : (i : ℕ) → i < length es → number_at es i e ≤ e.0
  below_last i lt = elim (cases_eq i n) [
    | inl same ↦ let h : number_at es i e ≡ e.0 = ap (λ j. number_at es j e) same ∙ last_is in omega (arith, h)
    | inr other ↦ let h : number_at es i e < number_at es n e =
        rises es i n e table.0 (omega (arith, lt, size, other)) (omega (arith, size)) in omega (arith, h, last_is)
  ]

  -- after the last chapter there is nothing
  pub after_last : (q : ℕ) → (e.0 + 1) * 1024 ≤ q → get (mapped es) q ≡ None
  after_last q past =
      get_none es q (q / 1024) table.0 refl (absent_at es (q / 1024) e (λ i lt same. (let h = below_last i lt in omega (arith, h, same, past))))

module _ {X Z : Type 0} where
  -- and where there are none, nothing is anywhere
  pub no_last : (es : List (ℕ × Rc (List (Option X)) Z)) (q : ℕ) → IsTable es → length es ≡ 0 → get (mapped es) q ≡ None
  no_last [] q table size = get_none {Z = Z} [] q (q / 1024) table.0 refl refl
  no_last (e ∷ es) q table size = absurd (omega (arith, size))
