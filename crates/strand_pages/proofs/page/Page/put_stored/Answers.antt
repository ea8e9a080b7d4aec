use Rattle.std.proofs.Common.{◌≡◌, ◌<◌, ◌*◌, ◌+◌, ℕ, arith, length, rules, subst, w64}
use Rattle.std.specs.Prelude.{FitsSigned}
use Rattle.std.proofs.lemmas.Int.{to_z-of_z}
use Rattle.strand_pages.specs.Committing.{ArePut}
use Rattle.strand_pages.specs.Paging.{kept_of, number_at}
use Rattle.strand_pages.proofs.Rows.{put_on, put_set}
use Rattle.strand_pages.proofs.page.Page.put_stored.Goals as goal

pub loop-place-preserved : goal.loop-place-preserved
loop-place-preserved c =
    let x = c.args.self.now in
    let row = c.loop-place.row in
    let k = c.loop-place.place in
    let le = c.loop-place.auto.place in
    let some = c.loop-place-test.true in
    let long = c.loop-place.auto.row in
    let end = c.requires.row in
    let within : x.number * 64 + k < length row = omega (arith, some, long, end) in
    let change : FitsSigned w64 (number_at x.changes k) = search rules in
    put_on x c.args.from k (k + 1) le (omega arith) c.args.row.now row _ c.loop-place.invariant
    (put_set x k row _ within (c.requires.stored k le some) (to_z-of_z w64 (number_at x.changes k) change))

pub returns : goal.returns
returns c =
    let some = c.requires.some in
    let most = c.loop-place.auto.place-end in
    let past = c.loop-place-test.false in
    let all : c.loop-place.place ≡ c.args.end = omega (arith, some, most, past) in
    subst (λ (n : ℕ). ArePut (kept_of c.args.self.now) c.args.from n c.args.row.now c.loop-place.row) all c.loop-place.invariant
