use Rattle.std.proofs.Common.{◌≡◌, ◌∙◌, ℤ, ap, refl, subst}
use Rattle.frame_strand.specs.Buffers.{raised_change}
use Rattle.strand_pages.specs.Doing.{IsKept}
use Rattle.strand_pages.specs.Logs.{Log}
use Rattle.strand_pages.specs.Tables.{Table, log_of, pages_log, with_adds}
use Rattle.strand_pages.proofs.Listed.{add_in_page, now_open}
use Rattle.strand_pages.proofs.Opening.{changed_kept}
use Rattle.strand_pages.proofs.log.PageLog.add_first.Goals as goal
use Rattle.strand_pages.proofs.log.PageLog.add_first.Goals.{else-is_far-via-then-is_far+else-put_aside, else-is_far-via-else-is_far}

-- what was said of a log that is this one
of : (s t : Table) → s ≡ t → (a n : ℤ) (after : Table) → IsKept (log_of s) a (raised_change n ((log_of s).writes a) ((log_of s).reads a)) (log_of after) →
    IsKept (log_of t) a (raised_change n ((log_of t).writes a) ((log_of t).reads a)) (log_of after)
of s t same a n after kept = subst (λ (y : Table). IsKept (log_of y) a (raised_change n ((log_of y).writes a) ((log_of y).reads a)) (log_of after)) same kept

pub returns-then-put_aside-clause-done : goal.returns-then-put_aside-clause-done
returns-then-put_aside-clause-done c = of c.is_far.new.self c.args.self.now c.is_far.ensures c.args.at.now c.args.number.now c.put_aside.new.self (c.if-put_aside.ensures.done refl)

pub returns-then-reserve-clause-done : goal.returns-then-reserve-clause-done
returns-then-reserve-clause-done c =
    let same : c.else-is_far.self ≡ c.args.self.now = elim c.else-is_far.branch [
      | else-is_far-via-then-is_far+else-put_aside w ↦ w.self-is ∙ w.if-put_aside.ensures.unchanged refl ∙ c.is_far.ensures
      | else-is_far-via-else-is_far w ↦ w.self-is ∙ c.is_far.ensures
    ] in
    let t = c.self.inside.pages in
    let u = c.add_at.new.self in
    let list = c.self.inside.list in
    let x : Log = log_of c.else-is_far.self in
    let at = c.args.at.now in
    let n = c.args.number.now in
    let place = c.if-reserve.ensures.place refl in
    let opens = ap log_of c.self.view_is ∙ c.if-reserve.ensures.opened refl in
    of c.else-is_far.self c.args.self.now same at n (record { pages = u; adds = list })
    (changed_kept x at (raised_change n (x.writes at) (x.reads at)) (with_adds (pages_log u) list)
    (add_in_page t u list x at place opens n (c.add_at.ensures.done (c.add_at.ensures.open ∙ now_open t u list x at place opens))))

pub returns-then-put_aside-2-clause-done : goal.returns-then-put_aside-2-clause-done
returns-then-put_aside-2-clause-done c =
    let same : c.else-is_far.self ≡ c.args.self.now = elim c.else-is_far.branch [
      | else-is_far-via-then-is_far+else-put_aside w ↦ w.self-is ∙ w.if-put_aside.ensures.unchanged refl ∙ c.is_far.ensures
      | else-is_far-via-else-is_far w ↦ w.self-is ∙ c.is_far.ensures
    ] in
    of c.reserve.new.self c.args.self.now (c.if-reserve.ensures.unchanged refl ∙ same) c.args.at.now c.args.number.now c.put_aside-2.new.self (c.if-put_aside-2.ensures.done refl)
