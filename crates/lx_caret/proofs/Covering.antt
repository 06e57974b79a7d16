-- The covered pieces, gathered one by one.
use Rattle.std.proofs.Common.{◌≡◌, ◌∙◌, ℕ, ◌+◌, ◌≤◌, suc, Bool, true, false, cond, List, [], ◌∷◌, ◌++◌, length, drop, map, Some, sym, ap, arith, append_assoc, append-nil}
use Rattle.std.specs.Prelude.{filter, nat_lt}
use Rattle.std.specs.List.{slice_get}
use Rattle.std.proofs.lemmas.List.{map-append, drop_all}
use Rattle.std.proofs.lemmas.List.Elements.{filter-append}
use Rattle.lx_node.specs.Kinds.{has_characters}
use Rattle.lx_node.specs.declared.cause.Point.{Point}
use Rattle.lx_forest.specs.Forest.{Forest}
use Rattle.lx_forest.specs.Lookups.{is_attached}
use Rattle.lx_edit.proofs.Turns.{left_at}
use Rattle.lx_blocks.specs.declared.ranges.Ranged.{Ranged}
use Rattle.lx_blocks.specs.Blocks.{is_at}
use Rattle.lx_blocks.specs.Places.{comes_first, covered}
use Rattle.lx_blocks.specs.Ranges.{start_of, end_of}
use Rattle.lx_caret.specs.declared.pieces.Piece.{Piece}
use Rattle.lx_caret.specs.Formatting.{start_piece, end_piece, whole, pieces}

-- those with a character
abbrev pub kept : List Piece → List Piece
kept ps = filter (λ (p : Piece). nat_lt p.from p.to) ps

-- the texts and tabs among nodes, each whole
abbrev pub wholes : Forest → List ℕ → List Piece
wholes f ks = kept (map (whole f) (filter (is_at has_characters f) ks))

wholes_first : (f : Forest) (k : ℕ) (ks : List ℕ) → wholes f (k ∷ ks) ≡ wholes f (k ∷ []) ++ wholes f ks
wholes_first f k ks =
    ap (λ xs. kept (map (whole f) xs)) (filter-append (is_at has_characters f) (k ∷ []) ks)
    ∙ ap kept (map-append (whole f) (filter (is_at has_characters f) (k ∷ [])) (filter (is_at has_characters f) ks))
    ∙ filter-append (λ (p : Piece). nat_lt p.from p.to) (map (whole f) (filter (is_at has_characters f) (k ∷ [])))
    (map (whole f) (filter (is_at has_characters f) ks))

one_more : (i : ℕ) → i + 1 ≡ suc i
one_more i = omega arith

-- a node was kept, where it is a text or tab
pub wholes_on : (f : Forest) (all : List ℕ) (i k : ℕ) (made more so_far : List Piece) → slice_get all i ≡ Some k → more ≡ made ++ wholes f (k ∷ [])
    → made ++ wholes f (drop i all) ≡ so_far → more ++ wholes f (drop (i + 1) all) ≡ so_far
wholes_on f all i k made more so_far at is before =
    ap (λ xs. xs ++ wholes f (drop (i + 1) all)) is
    ∙ append_assoc made (wholes f (k ∷ [])) (wholes f (drop (i + 1) all))
    ∙ ap (λ n. made ++ (wholes f (k ∷ []) ++ wholes f (drop n all))) (one_more i)
    ∙ ap (λ xs. made ++ xs) (sym (wholes_first f k (drop (suc i) all)))
    ∙ ap (λ ks. made ++ wholes f ks) (sym (left_at all i k at))
    ∙ before

-- none is left
pub wholes_done : (f : Forest) (all : List ℕ) (i : ℕ) (made so_far : List Piece) → length all ≤ i → made ++ wholes f (drop i all) ≡ so_far → made ≡ so_far
wholes_done f all i made so_far past before =
    sym (append-nil made) ∙ ap (λ ks. made ++ wholes f ks) (sym (drop_all i all past)) ∙ before

-- the parts make the whole
pub pieces_gathered : (f : Forest) (start end : Point) (keys : List ℕ) (first some last : List Piece) → keys ≡ covered f start end
    → first ≡ [] ++ kept (start_piece f start end start.kind) → some ≡ first ++ wholes f keys → last ≡ some ++ kept (end_piece start end end.kind)
    → last ≡ pieces f start end
pieces_gathered f start end keys first some last are a b c =
    let ws : List Piece = map (whole f) (filter (is_at has_characters f) (covered f start end)) in
    let b' : some ≡ first ++ kept ws = b ∙ ap (λ ks. first ++ wholes f ks) are in
    c ∙ ap (λ xs. xs ++ kept (end_piece start end end.kind)) b'
    ∙ append_assoc first (kept ws) (kept (end_piece start end end.kind))
    ∙ ap (λ xs. xs ++ (kept ws ++ kept (end_piece start end end.kind))) a
    ∙ sym (filter-append (λ (p : Piece). nat_lt p.from p.to) (start_piece f start end start.kind) (ws ++ end_piece start end end.kind)
    ∙ ap (λ xs. kept (start_piece f start end start.kind) ++ xs) (filter-append (λ (p : Piece). nat_lt p.from p.to) ws (end_piece start end end.kind)))

-- ---- the two points

pub start_attached : (f : Forest) (r : Ranged) → is_attached f r.anchor.key ≡ true → is_attached f r.focus.key ≡ true → is_attached f (start_of f r).key ≡ true
start_attached f r a b = by_order (comes_first f r.anchor r.focus) where
  by_order : (first : Bool) → is_attached f (cond first r.anchor r.focus).key ≡ true
  by_order true = a
  by_order false = b

pub end_attached : (f : Forest) (r : Ranged) → is_attached f r.anchor.key ≡ true → is_attached f r.focus.key ≡ true → is_attached f (end_of f r).key ≡ true
end_attached f r a b = by_order (comes_first f r.anchor r.focus) where
  by_order : (first : Bool) → is_attached f (cond first r.focus r.anchor).key ≡ true
  by_order true = b
  by_order false = a
