-- A report goes by the tests of the family's rows alone: tests that are equal there give the same report.
use Rattle.std.specs.Prelude.{◌≡◌, ◌&&◌, ◌≤◌}
use Rattle.fips197.proofs.Kit.{ap, ap₂, Bool, not, ℕ}
use Rattle.incidence.specs.Family.{Family}
use Rattle.incidence.specs.Report.{cleared, named, number_named, disagreeing, some_unexplained, answer}
use Rattle.incidence.proofs.Counting.{count_ext, any_ext}
use Rattle.incidence.proofs.Covering.{holds_same}

module _ (F : Family) (a b : ℕ → Bool) (same : (i : ℕ) → 1 ≤ i → i ≤ F.rows → a i ≡ b i) where
  pub named_ext : (j : ℕ) → named F a j ≡ named F b j
  unfolding named cleared
  named_ext j = ap not (any_ext (λ r. a r && F.on r j) (λ r. b r && F.on r j) F.rows (λ i l u. ap (λ (t : Bool). t && F.on i j) (same i l u)))

  pub number_named_ext : (n : ℕ) → number_named F a n ≡ number_named F b n
  unfolding number_named
  number_named_ext n = count_ext (named F a) (named F b) n (λ j l u. named_ext j)

  pub disagreeing_ext : disagreeing a F.rows ≡ disagreeing b F.rows
  unfolding disagreeing
  disagreeing_ext = count_ext (λ r. not (a r)) (λ r. not (b r)) F.rows (λ i l u. ap not (same i l u))

  pub unexplained_ext : (n : ℕ) → some_unexplained F a n F.rows ≡ some_unexplained F b n F.rows
  unfolding some_unexplained
  unexplained_ext n =
      any_ext _ _ F.rows (λ i l u. ap₂ (λ (s t : Bool). not s && not t) (same i l u)
      (holds_same F (named F a) (named F b) n i (λ j p q. named_ext j)))

  pub answer_ext : (n : ℕ) → answer F a n ≡ answer F b n
  unfolding answer
  answer_ext n = rw (disagreeing_ext, number_named_ext n, unexplained_ext n)
