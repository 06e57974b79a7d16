-- Whether a node is the same in two trees can be decided.
use Rattle.std.proofs.Common.{◌≡◌, ◌∙◌, ◌⊎◌, ℕ, Bool, true, false, cond, eqb, ◌&&◌, Decides, inl, inr, refl, sym, ap}
use Rattle.std.proofs.lemmas.Bool.Decides.{Decides-eqb, Decides-and, Decides-like}
use Rattle.lx_node.specs.Same.{same_fields}
use Rattle.lx_node.proofs.Same.{same_text-Decides, option_eq-Decides, same_fields-Decides}
use Rattle.lx_node.specs.declared.kind.Kind.{Kind}
use Rattle.lx_node.specs.declared.kind.Kind.TheVariants as kind
use Rattle.lx_node.specs.declared.kind.ListType.{ListType}
use Rattle.lx_node.specs.declared.kind.ListType.TheVariants as type
use Rattle.lx_forest.specs.Forest.{Forest}
use Rattle.lx_forest.specs.Lookups.{kind_of, fields_of, parent_of, children_of}
use Rattle.lx_outline.specs.Events.{IsSame}

-- ---- a kind as two numbers

type_number : ListType → ℕ
type_number type.Bullet = 0
type_number type.Number = 1
type_number type.Check = 2

type_from : ℕ → ListType
type_from n = cond (eqb n 0) type.Bullet (cond (eqb n 1) type.Number type.Check)

type_back : (t : ListType) → type_from (type_number t) ≡ t
unfolding type_number type_from
type_back type.Bullet = refl
type_back type.Number = refl
type_back type.Check = refl

place : Kind → ℕ
place kind.Root = 0
place kind.Paragraph = 1
place (kind.Heading level) = 2
place kind.Quote = 3
place (kind.List t) = 4
place kind.Item = 5
place kind.Link = 6
place kind.Table = 7
place kind.Row = 8
place kind.Cell = 9
place kind.Text = 10
place kind.Tab = 11
place kind.Break = 12
place kind.Rule = 13
place kind.Embed = 14

detail : Kind → ℕ
detail (kind.Heading level) = level
detail (kind.List t) = type_number t
detail _ = 0

kind_from : ℕ → ℕ → Kind
kind_from p d =
    cond (eqb p 0) kind.Root
    (cond (eqb p 1) kind.Paragraph (cond (eqb p 2) (kind.Heading d) (cond (eqb p 3) kind.Quote (cond (eqb p 4) (kind.List (type_from d))
    (cond (eqb p 5) kind.Item (cond (eqb p 6) kind.Link (cond (eqb p 7) kind.Table (cond (eqb p 8) kind.Row (cond (eqb p 9) kind.Cell
    (cond (eqb p 10) kind.Text (cond (eqb p 11) kind.Tab (cond (eqb p 12) kind.Break (cond (eqb p 13) kind.Rule kind.Embed)))))))))))))

kind_back : (k : Kind) → kind_from (place k) (detail k) ≡ k
unfolding place detail kind_from
kind_back kind.Root = refl
kind_back kind.Paragraph = refl
kind_back (kind.Heading level) = refl
kind_back kind.Quote = refl
kind_back (kind.List t) = ap kind.List (type_back t)
kind_back kind.Item = refl
kind_back kind.Link = refl
kind_back kind.Table = refl
kind_back kind.Row = refl
kind_back kind.Cell = refl
kind_back kind.Text = refl
kind_back kind.Tab = refl
kind_back kind.Break = refl
kind_back kind.Rule = refl
kind_back kind.Embed = refl

abbrev same_kind : Kind → Kind → Bool
same_kind a b = eqb (place a) (place b) && eqb (detail a) (detail b)

kind_by : (a b : Kind) → place a ≡ place b → detail a ≡ detail b → a ≡ b
kind_by a b e g = sym (kind_back a) ∙ ap (λ p. kind_from p (detail a)) e ∙ ap (kind_from (place b)) g ∙ kind_back b

same_kind-Decides : (a b : Kind) → Decides (same_kind a b) (a ≡ b)
same_kind-Decides a b =
    Decides-like (same_kind a b) (λ both. kind_by a b both.0 both.1) (λ same. (ap place same, ap detail same))
    (Decides-and (eqb (place a) (place b)) (eqb (detail a) (detail b)) (Decides-eqb (place a) (place b)) (Decides-eqb (detail a) (detail b)))

-- ---- a node

told : {P : Type 0} (b : Bool) → Decides b P → P ⊎ (P → ⊥)
told true d = inl (d.0 refl)
told false d = inr (λ p. absurd (let h : false ≡ true = d.1 p in cc))

both_told : {P Q : Type 0} → P ⊎ (P → ⊥) → Q ⊎ (Q → ⊥) → (P × Q) ⊎ ((P × Q) → ⊥)
both_told (inl p) (inl q) = inl (p, q)
both_told (inl p) (inr other) = inr (λ pq. other pq.1)
both_told (inr other) q = inr (λ pq. other pq.0)

pub same_or_other : (old new : Forest) (q : ℕ) → IsSame old new q ⊎ (IsSame old new q → ⊥)
same_or_other old new q =
    elim (both_told
    (both_told (told _ (option_eq-Decides same_kind same_kind-Decides (kind_of old q) (kind_of new q)))
    (told _ (option_eq-Decides same_fields same_fields-Decides (fields_of old q) (fields_of new q))))
    (both_told (told _ (option_eq-Decides eqb Decides-eqb (parent_of old q) (parent_of new q)))
    (told _ (same_text-Decides (children_of old q) (children_of new q))))) [
      | inl same ↦ inl (record { kind = same.0.0; fields = same.0.1; parent = same.1.0; children = same.1.1 })
      | inr other ↦ inr (λ same. other ((same.kind, same.fields), (same.parent, same.children)))
    ]
