-- The span of a row of a symmetric matrix, from the spans of the row and of the column of the same number below. Assumes
-- nothing.
use Rattle.std.proofs.Common.{◌≡◌, ℕ, ◌+◌, ◌<◌, ◌≤◌, min, max, cond, ◌&&◌, ltb, ap, ◌∙◌, arith}
use Rattle.std.proofs.lemmas.Bool.{cond-true, and_from, lt-ltb}
use Rattle.arithmetic.specs.Values.{Value, empty, zeros}
use Rattle.cells.specs.declared.cell.Places.{Places}
use Rattle.layouts.specs.declared.side.Side.TheVariants.{Lower, Upper}
use Rattle.layouts.specs.Layers.{smaller, symmetric}
use Rattle.layouts.specs.Matrix.{Matrix}
use Rattle.layouts.specs.Spans.{ZeroOutside, ZeroAcross, ZeroDown}

-- row i of the entries f in a square of side n: [0, 0] before `low` on the left of the diagonal, and from `high` on behind it
joined : (f : ℕ → ℕ → Value) (n i low high : ℕ) (s : Places) → i < n → ((k : ℕ) → k < i → k < low → f i k ≡ zeros) → ((k : ℕ) → i < k → high ≤ k → k < n → f i k ≡ zeros)
    → s.from ≡ min i low → s.to ≡ max (i + 1) (min n high) → ZeroOutside (λ j. cond (ltb i n && ltb j n) (f i j) empty) n s
joined f n i low high s h before after from to = record {
  order = omega (arith, from, to);
  inside = omega (arith, to);
  before = λ k l. inside k (omega (arith, from, l)) ∙ before k (omega (arith, from, l)) (omega (arith, from, l));
  after = λ k l m. inside k m ∙ after k (omega (arith, to, l)) (omega (arith, to, l)) m;
}
  where
    inside : (k : ℕ) → k < n → cond (ltb i n && ltb k n) (f i k) empty ≡ f i k
    inside k l = cond-true (ltb i n && ltb k n) (f i k) empty (and_from (ltb i n) (ltb k n) (lt-ltb i n h) (lt-ltb k n l))

-- the place that is read, on the left of the diagonal and behind it
read_left : (f : ℕ → ℕ → Value) (i k : ℕ) → k < i → f (max i k) (min i k) ≡ f i k
read_left f i k h = let a : max i k ≡ i = omega arith in let b : min i k ≡ k = omega arith in ap (λ (n : ℕ). f n (min i k)) a ∙ ap (f i) b

read_behind : (f : ℕ → ℕ → Value) (i k : ℕ) → i < k → f (max i k) (min i k) ≡ f k i
read_behind f i k h = let a : max i k ≡ k = omega arith in let b : min i k ≡ i = omega arith in ap (λ (n : ℕ). f n (min i k)) a ∙ ap (f k) b

pub lower_across : (m : Matrix) (i : ℕ) (a d s : Places) → i < smaller m → ZeroAcross m i a → ZeroDown m i d → s.from ≡ min i a.from → s.to ≡ max (i + 1) (min (smaller m) d.to) → ZeroAcross (symmetric Lower m) i s
lower_across m i a d s h za zd from to = joined (λ i j. m.entry (max i j) (min i j)) (smaller m) i a.from d.to s h
    (λ k l b. read_left m.entry i k l ∙ za.before k b) (λ k l b e. read_behind m.entry i k l ∙ zd.after k b (omega (arith, e))) from to

pub upper_across : (m : Matrix) (i : ℕ) (a d s : Places) → i < smaller m → ZeroAcross m i a → ZeroDown m i d → s.from ≡ min i d.from → s.to ≡ max (i + 1) (min (smaller m) a.to) → ZeroAcross (symmetric Upper m) i s
upper_across m i a d s h za zd from to = joined (λ i j. m.entry (min i j) (max i j)) (smaller m) i d.from a.to s h
    (λ k l b. read_left (λ p q. m.entry q p) i k l ∙ zd.before k b) (λ k l b e. read_behind (λ p q. m.entry q p) i k l ∙ za.after k b (omega (arith, e))) from to
