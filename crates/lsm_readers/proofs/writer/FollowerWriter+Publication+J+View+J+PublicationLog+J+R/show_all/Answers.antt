use Rattle.std.proofs.Common.{◌≡◌, ◌∙◌, None, sym}
use Rattle.left_right.specs.Handles.{published, pending}
use Rattle.lsm_readers.specs.Publications.{last_published}
use Rattle.lsm_readers.specs.Writers.{last_list}
use Rattle.lsm_readers.proofs.Publishing.{pending_last, pending_same, flushed_last, flushed_shows}
use Rattle.lsm_readers.proofs.writer.FollowerWriter+Publication+J+View+J+PublicationLog+J+R.show_all.Goals.{in-Some+in_default-append, in_default, in-Ok, in-Err-flush}
use Rattle.lsm_readers.proofs.writer.FollowerWriter+Publication+J+View+J+PublicationLog+J+R.show_all.Goals as goal

pub invariant_of-self-2 : goal.invariant_of-self-2
invariant_of-self-2 g c =
    let m = c.match-take.self-inside in
    let ready : (m.waiting ≡ None) × (last_list (published m.handle) (pending m.handle) ≡ m.taken) × (m.number ≡ (last_published m.taken).version.number) =
    elim c.match-take.branch [
      | in-Some+in_default-append w ↦
          rw w.self-inside-is (
            c.take.ensures.after,
            pending_last (published c.self.inside.handle) (published w.append.new.self) (pending c.self.inside.handle) (pending w.append.new.self) c.self.inside.waiting w.in-Some.publication c.self.inside.taken
                (sym c.take.ensures.value ∙ w.in-Some.is) c.self.invariant.0 w.in_default-append.ensures.pending,
            c.self.invariant.1,
          )
      | in_default w ↦
          rw w.self-inside-is (
            c.take.ensures.after,
            pending_same (published c.self.inside.handle) (pending c.self.inside.handle) c.self.inside.waiting c.self.inside.taken (sym c.take.ensures.value ∙ w.in_default.is) c.self.invariant.0,
            c.self.invariant.1,
          )
    ] in (
      flushed_last c.flush.result (published m.handle) (published c.flush.new.self) (pending m.handle) (pending c.flush.new.self) m.waiting m.taken c.flush.ensures.values ready.0 ready.1,
      ready.2,
    )

pub returns-clause-ok : goal.returns-clause-ok
returns-clause-ok g c =
    let m = c.match-take.self-inside in
    let ready : last_list (published m.handle) (pending m.handle) ≡ m.taken =
    elim c.match-take.branch [
      | in-Some+in_default-append w ↦
          rw w.self-inside-is (pending_last (published c.self.inside.handle) (published w.append.new.self) (pending c.self.inside.handle) (pending w.append.new.self) c.self.inside.waiting w.in-Some.publication c.self.inside.taken
          (sym c.take.ensures.value ∙ w.in-Some.is) c.self.invariant.0 w.in_default-append.ensures.pending)
      | in_default w ↦
          rw w.self-inside-is (pending_same (published c.self.inside.handle) (pending c.self.inside.handle) c.self.inside.waiting c.self.inside.taken (sym c.take.ensures.value ∙ w.in_default.is) c.self.invariant.0)
    ] in
    elim c.match-flush.branch [
      | in-Ok w ↦ rw w.result-is (flushed_shows (published m.handle) (published c.flush.new.self) (pending m.handle) m.taken w.in-Ok.ensures.values.0 ready)
      | in-Err-flush w ↦ rw w.result-is tt
    ]
