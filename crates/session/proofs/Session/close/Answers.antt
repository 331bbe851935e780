-- The tag file of the sums where nothing refuses, else all as it was (Stepping).
use Rattle.std.specs.Prelude.{◌≡◌, ◌++◌, ◌*◌, ◌≤◌}
use Rattle.fips197.proofs.Kit.{refl, sym, ap, ◌∙◌, subst, true, length, drop, rules}
use Rattle.sizes.specs.Sizes.{known, family_of}
use Rattle.files.specs.declared.tagfile.Head.{Head}
use Rattle.files.specs.TagFile.{file_size}
use Rattle.sums.specs.Adding.{sum_in}
use Rattle.tagging.specs.Tagging.{file_of}
use Rattle.session.specs.Session.{session_head, close_refusal, close_gives, close_writes}
use Rattle.session.proofs.Carried.{sums_fit}
use Rattle.files.proofs.Passing.{given_told, kept_told}
use Rattle.session.proofs.Stepping.{close_tells}
use Rattle.session.proofs.Session.close.Goals as goal

pub returns-in-Err : goal.returns-in-Err
unfolding close_refusal close_gives close_writes
returns-in-Err c = record {
  refused = c.in-Err.ensures;
  session = kept_told _ _ _ _ c.in-Err.ensures;
  written = kept_told _ _ _ _ c.in-Err.ensures;
}

pub write_file-requires : goal.write_file-requires
unfolding close_refusal session_head
write_file-requires c =
    let s = c.args.self in
    let h : length s.sums ≡ 1312 = search rules in
    let p = close_tells s c.args.out.now _ c.in-Ok.ensures refl in
    let Fits : Head → Type 0 = λ x. (known x.code ≡ true) × ((x.count ≤ (family_of x.code).items) × ((16 * (family_of x.code).tags ≤ length s.sums) × (file_size x ≤ length c.args.out.now))) in
    let r : Fits c.head.result = subst Fits (sym c.head.ensures) (p.code, (p.fits, (sums_fit s.code s.sums h, p.room))) in
    record { code_value = r.0; count_bound = r.1.0; code_in_bounds = r.1.1 }

pub returns-in-Ok : goal.returns-in-Ok
unfolding close_refusal close_gives close_writes
returns-in-Ok c =
    let s = c.args.self in
    let o = c.args.out.now in
    record {
      refused = c.in-Ok.ensures;
      session = c.closed-session.ensures ∙ given_told _ _ _ c.in-Ok.ensures;
      written = c.write_file.ensures ∙ ap (λ (h : Head). file_of s.keys h (sum_in s.sums) ++ drop (file_size h) o) c.head.ensures ∙ given_told _ _ _ c.in-Ok.ensures;
    }
