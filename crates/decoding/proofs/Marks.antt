-- Arrays of marks: one mark written leaves the others, what two steps clear is what either clears, and an array whose marks are known is
-- a list.
use Rattle.std.specs.Prelude.{◌≡◌, ◌&&◌, ◌||◌, ◌∷◌, ◌++◌, ◌-◌, ◌≤◌, ◌<◌, if◌then◌else◌}
use Rattle.fips197.proofs.Kit.{refl, sym, ap, ap₂, ◌∙◌, subst, Bool, true, false, not, List, [], append-nil, ℕ, zero, suc, arith, eqb, length, get_or, set, take, drop, length-set, take-append-drop, take-suc, get_or-set_same, get_or-set_other, drop-set-lt, eqb-true, eqb-false, ne_eqb}
use Rattle.std.proofs.Math.ListN.{replicate, drop_of_length-le}
use Rattle.std.proofs.Math.Seq.{drop-length}
use Rattle.std.proofs.lemmas.List.{length-replicate, get_or-replicate}
use Rattle.blocks.specs.Block.{zeros}
use Rattle.incidence.specs.Count.{indicator, count_up_to, any_up_to}
use Rattle.incidence.specs.Family.{Family, holds_one, Lawful}
use Rattle.incidence.specs.Report.{cleared, named, number_named, disagreeing, some_unexplained, answer_by, answer}
use Rattle.incidence.proofs.Counting.{count_ext, any_ext}
use Rattle.incidence.proofs.Covering.{holds_same}
use Rattle.incidence.proofs.Differences.{none_named}
use Rattle.decoding.specs.Decoding.{marks_of, mark_in, Marked, Cleared, is_marked, unexplained_in}

-- ---- one mark is written

module _ (s : List ℕ) (j v : ℕ) (low : 1 ≤ j) (fits : j ≤ length s) where
  put_here : mark_in (set s (j - 1) v) j ≡ v
  unfolding mark_in
  put_here = get_or-set_same s (j - 1) v 0 (omega arith)

  put_other : (i : ℕ) → 1 ≤ i → (i ≡ j → ⊥) → mark_in (set s (j - 1) v) i ≡ mark_in s i
  unfolding mark_in
  put_other i l ne = get_or-set_other s (j - 1) (i - 1) v 0 (λ e. ne (omega arith))

  put_rest : (n : ℕ) → j ≤ n → drop n (set s (j - 1) v) ≡ drop n s
  put_rest n u = drop-set-lt n s (j - 1) v (omega arith)

-- an array with one mark throughout
pub marked_all : (s : List ℕ) (v : ℕ) → Marked (length s) (λ j. v) s (replicate (length s) v)
unfolding mark_in
marked_all s v = record {
  size = length-replicate (length s) v;
  marks = λ j l u. get_or-replicate (length s) (j - 1) v 0 (omega arith);
  rest = drop_of_length-le (replicate (length s) v) (omega (arith, length-replicate (length s) v)) ∙ sym (drop-length s);
}

-- ---- items are cleared

pub cleared_as : (p q : ℕ → Bool) (n : ℕ) (before after : List ℕ) → ((j : ℕ) → 1 ≤ j → j ≤ n → p j ≡ q j) → Cleared p n before after → Cleared q n before after
cleared_as p q n before after h C = record {
  size = C.size;
  marks = λ j l u. C.marks j l u ∙ ap (λ (b : Bool). if b then 0 else mark_in before j) (h j l u);
  rest = C.rest;
}

pub cleared_at : (p : ℕ → Bool) {n m : ℕ} {before after : List ℕ} → n ≡ m → Cleared p n before after → Cleared p m before after
cleared_at p {before = before} {after = after} e C = subst (λ (k : ℕ). Cleared p k before after) e C

pub cleared-none : (p : ℕ → Bool) (n : ℕ) (s : List ℕ) → ((j : ℕ) → 1 ≤ j → j ≤ n → p j ≡ false) → Cleared p n s s
cleared-none p n s h =
    cleared_as (λ j. false) p n s s (λ j l u. sym (h j l u)) (record { size = refl; marks = λ j l u. refl; rest = refl })

pub cleared-one : (n : ℕ) (s : List ℕ) (j : ℕ) → 1 ≤ j → j ≤ n → n ≤ length s → Cleared (eqb j) n s (set s (j - 1) 0)
cleared-one n s j low high fits = record {
  size = length-set s (j - 1) 0;
  marks = λ i l u. go i l (eqb j i) refl;
  rest = put_rest s j 0 low (omega arith) n high;
}
  where
    go : (i : ℕ) → 1 ≤ i → (b : Bool) → eqb j i ≡ b → mark_in (set s (j - 1) 0) i ≡ (if b then 0 else mark_in s i)
    go i l true q = ap (mark_in (set s (j - 1) 0)) (sym (eqb-true j i q)) ∙ put_here s j 0 low (omega arith)
    go i l false q = put_other s j 0 low (omega arith) i l (λ e. eqb-false j i q (sym e))

pub cleared_far : (n : ℕ) (s : List ℕ) (j : ℕ) → n < j → Cleared (eqb j) n s s
cleared_far n s j h = cleared-none (eqb j) n s (λ i l u. ne_eqb j i (λ e. omega arith))

-- what either step clears is cleared
pub cleared_both : (p q : ℕ → Bool) (n : ℕ) (a b c : List ℕ) → Cleared p n a b → Cleared q n b c → Cleared (λ j. p j || q j) n a c
cleared_both p q n a b c P Q = record {
  size = Q.size ∙ P.size;
  marks = λ j l u. Q.marks j l u ∙ go (p j) (q j) (mark_in a j) (mark_in b j) (P.marks j l u);
  rest = Q.rest ∙ P.rest;
}
  where
    go : (s t : Bool) (x y : ℕ) → y ≡ (if s then 0 else x) → (if t then 0 else y) ≡ (if s || t then 0 else x)
    go true true x y e = refl
    go true false x y e = e
    go false true x y e = refl
    go false false x y e = e

-- and what both clear, without what the first does, the second does
pub cleared_apart : (p q : ℕ → Bool) (n : ℕ) (a b c : List ℕ) → Cleared p n a b → Cleared (λ j. p j || q j) n a c → Cleared q n b c
cleared_apart p q n a b c P C = record {
  size = C.size ∙ sym P.size;
  marks = λ j l u. C.marks j l u ∙ go (p j) (q j) (mark_in a j) (mark_in b j) (P.marks j l u);
  rest = C.rest ∙ sym P.rest;
}
  where
    go : (s t : Bool) (x y : ℕ) → y ≡ (if s then 0 else x) → (if s || t then 0 else x) ≡ (if t then 0 else y)
    go true true x y e = refl
    go true false x y e = sym e
    go false true x y e = refl
    go false false x y e = sym e

-- ---- all items are marked, then those that an agreeing row holds are cleared

module _ (F : Family) (agrees : ℕ → Bool) {n : ℕ} {a b c : List ℕ} (all : Marked n (λ j. 1) a b) (C : Cleared (cleared F agrees F.rows) n b c) where
  pub named-marked : Marked n (λ j. indicator (named F agrees j)) a c
  unfolding named
  named-marked = record {
    size = C.size ∙ all.size;
    marks = λ j l u. C.marks j l u ∙ go (cleared F agrees F.rows j) (mark_in b j) (all.marks j l u);
    rest = C.rest ∙ all.rest;
  }
    where
      go : (t : Bool) (x : ℕ) → x ≡ 1 → (if t then 0 else x) ≡ indicator (not t)
      go true x e = refl
      go false x e = e

  marked-named : (j : ℕ) → 1 ≤ j → j ≤ n → is_marked c j ≡ named F agrees j
  unfolding is_marked
  marked-named j l u = ap (λ (x : ℕ). not (eqb x 0)) (named-marked.marks j l u) ∙ go (named F agrees j)
    where
      go : (t : Bool) → not (eqb (indicator t) 0) ≡ t
      go true = refl
      go false = refl

  pub count_is : count_up_to (is_marked c) n ≡ number_named F agrees n
  unfolding number_named
  count_is = count_ext (is_marked c) (named F agrees) n marked-named

  holds_is : (i : ℕ) → holds_one F (is_marked c) n i ≡ holds_one F (named F agrees) n i
  holds_is i = holds_same F (is_marked c) (named F agrees) n i marked-named

  unexplained_is : any_up_to (unexplained_in F agrees c n) F.rows ≡ some_unexplained F agrees n F.rows
  unfolding unexplained_in some_unexplained
  unexplained_is = any_ext _ _ F.rows (λ i l u. ap (λ (t : Bool). not (agrees i) && not t) (holds_is i))

  -- what is counted and found decides the answer
  answer_to : (rows names : ℕ) → rows ≡ disagreeing agrees F.rows → names ≡ number_named F agrees n
      → answer_by F.limit rows names (any_up_to (unexplained_in F agrees c n) F.rows) ≡ answer F agrees n
  unfolding answer
  answer_to rows names p q = rw (p, q, unexplained_is)

-- where there are as many marks as items
module _ (F : Family) (agrees : ℕ → Bool) {a b c : List ℕ} (all : Marked (length a) (λ j. 1) a b) (C : Cleared (cleared F agrees F.rows) (length a) b c) where
  pub count_at : count_up_to (is_marked c) (length c) ≡ number_named F agrees (length a)
  count_at = ap (count_up_to (is_marked c)) (C.size ∙ all.size) ∙ count_is F agrees all C

  pub answer_is : (rows names : ℕ) → rows ≡ disagreeing agrees F.rows → names ≡ number_named F agrees (length a)
      → answer_by F.limit rows names (any_up_to (unexplained_in F agrees c (length c)) F.rows) ≡ answer F agrees (length a)
  answer_is rows names p q =
      ap (λ (k : ℕ). answer_by F.limit rows names (any_up_to (unexplained_in F agrees c k) F.rows)) (C.size ∙ all.size)
      ∙ answer_to F agrees all C rows names p q

-- marks that are known are a list
module _ (p : ℕ → Bool) (n : ℕ) (before after : List ℕ) (M : Marked n (λ j. indicator (p j)) before after) (fits : n ≤ length before) where
  front : (k : ℕ) → k ≤ n → take k after ≡ marks_of p k
  unfolding marks_of mark_in
  front zero h = refl
  front (suc k) h = go (front k (omega arith))
    where
      last : get_or after k 0 ≡ indicator (p (suc k))
      last = let e : k ≡ suc k - 1 = omega arith in ap (λ (m : ℕ). get_or after m 0) e ∙ M.marks (suc k) (omega arith) h

      go : take k after ≡ marks_of p k → take (suc k) after ≡ marks_of p k ++ (indicator (p (suc k)) ∷ [])
      go ih =
          take-suc after k 0 (omega (arith, M.size))
          ∙ ap (λ (t : List ℕ). t ++ (get_or after k 0 ∷ [])) ih ∙ ap (λ (x : ℕ). marks_of p k ++ (x ∷ [])) last

  pub marked-list : after ≡ marks_of p n ++ drop n before
  marked-list =
      sym (take-append-drop n after) ∙ ap (λ (t : List ℕ). t ++ drop n after) (front n (omega arith))
      ∙ ap (λ (t : List ℕ). marks_of p n ++ t) M.rest

pub marked_whole : (p : ℕ → Bool) (before after : List ℕ) → Marked (length before) (λ j. indicator (p j)) before after → after ≡ marks_of p (length before)
marked_whole p before after M =
    marked-list p (length before) before after M (omega arith)
    ∙ ap (λ (t : List ℕ). marks_of p (length before) ++ t) (drop-length before) ∙ append-nil _

-- ---- no item is named

pub marks-none : (p : ℕ → Bool) (n : ℕ) → ((j : ℕ) → 1 ≤ j → j ≤ n → p j ≡ false) → marks_of p n ≡ zeros n
unfolding marks_of
marks-none p zero h = refl
marks-none p (suc n) h =
    ap₂ (λ (l : List ℕ) (b : Bool). l ++ (indicator b ∷ [])) (marks-none p n (λ j l u. h j l (omega arith))) (h (suc n) (omega arith) (omega arith))
    ∙ snoc n
  where
    snoc : (n : ℕ) → zeros n ++ (0 ∷ []) ≡ zeros (suc n)
    snoc zero = refl
    snoc (suc n) = ap (λ (l : List ℕ). 0 ∷ l) (snoc n)

-- where every row agrees, `intact` writes what `decode` does
pub marks_agreeing : (F : Family) (agrees : ℕ → Bool) → ((i : ℕ) → 1 ≤ i → i ≤ F.rows → agrees i ≡ true) → Lawful F → (n : ℕ) → n ≤ F.items
    → marks_of (named F agrees) n ≡ zeros n
marks_agreeing F agrees all L n fits = marks-none (named F agrees) n (none_named F agrees all L n fits)
