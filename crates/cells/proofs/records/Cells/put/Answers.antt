use Rattle.model.specs.State.{set_inbox, set_tray}
use Rattle.model.specs.Steps.{between}
use Rattle.cells.specs.View.{view_of, parties_of}
use Rattle.cells.proofs.Puts.{untouched, no_count_word, no_lock_word, no_kid_word, no_inbox_word, no_tray_word}
use Rattle.cells.proofs.Views.{made_so, count_put, lock_put, kid_put}
use Rattle.cells.proofs.records.Cells.put.Goals as goal

pub returns-in-CountWord-clause-becomes : goal.returns-in-CountWord-clause-becomes
returns-in-CountWord-clause-becomes g c =
    rw (c.in-CountOf.is, c.in-CountWord.is)
    (count_put c.args.self.now c.in-CountOf.n (rw c.in-CountOf.is at c.requires) c.index_mut.result.now c.index_mut.ensures.value c.in-CountWord.v)

pub returns-in-LockWord-clause-becomes : goal.returns-in-LockWord-clause-becomes
returns-in-LockWord-clause-becomes g c =
    rw (c.in-LockOf.is, c.in-LockWord.is)
    (lock_put c.args.self.now c.in-LockOf.n (rw c.in-LockOf.is at c.requires) c.index_mut-in-LockWord.result.now c.index_mut-in-LockWord.ensures.value c.in-LockWord.v)

pub returns-in-KidWord-clause-becomes : goal.returns-in-KidWord-clause-becomes
returns-in-KidWord-clause-becomes g c =
    rw (c.in-KidOf.is, c.in-KidWord.is)
    (kid_put c.args.self.now c.in-KidOf.n (rw c.in-KidOf.is at c.requires) c.index_mut-in-KidWord.result.now c.index_mut-in-KidWord.ensures.value c.in-KidOf.k c.in-KidWord.v c.put.new.self c.put.ensures)

pub returns-in-InboxWord-clause-becomes : goal.returns-in-InboxWord-clause-becomes
returns-in-InboxWord-clause-becomes g c =
    let s = c.args.self.now in
    let q = c.in-InboxOf.q in
    rw (c.in-InboxOf.is, c.in-InboxWord.is)
    (made_so s (between 1 (parties_of s) q) c.set_inbox.new.self (set_inbox (view_of s) q c.in-InboxWord.v) (view_of s) (rw c.in-InboxOf.is at c.requires) c.set_inbox.ensures)

pub returns-in-TrayWord-clause-becomes : goal.returns-in-TrayWord-clause-becomes
returns-in-TrayWord-clause-becomes g c =
    let s = c.args.self.now in
    let q = c.in-TrayOf.q in
    rw (c.in-TrayOf.is, c.in-TrayWord.is)
    (made_so s (between 1 (parties_of s) q) c.set_tray.new.self (set_tray (view_of s) q c.in-TrayWord.v) (view_of s) (rw c.in-TrayOf.is at c.requires) c.set_tray.ensures)

pub returns-in_default : goal.returns-in_default
returns-in_default g c = rw c.in-CountOf.is (untouched c.args.self.now c.args.data.now (no_count_word c.in-CountOf.n c.args.word c.in_default.not-CountWord))

pub returns-in_default-word : goal.returns-in_default-word
returns-in_default-word g c = rw c.in-LockOf.is (untouched c.args.self.now c.args.data.now (no_lock_word c.in-LockOf.n c.args.word c.in_default-word.not-LockWord))

pub returns-in_default-word-2 : goal.returns-in_default-word-2
returns-in_default-word-2 g c =
    rw c.in-KidOf.is (untouched c.args.self.now c.args.data.now (no_kid_word c.in-KidOf.n c.in-KidOf.k c.args.word c.in_default-word-2.not-KidWord))

pub returns-in_default-word-4 : goal.returns-in_default-word-4
returns-in_default-word-4 g c =
    rw c.in-InboxOf.is (untouched c.args.self.now c.args.data.now (no_inbox_word c.in-InboxOf.q c.args.word c.in_default-word-4.not-InboxWord))

pub returns-in_default-word-5 : goal.returns-in_default-word-5
returns-in_default-word-5 g c =
    rw c.in-TrayOf.is (untouched c.args.self.now c.args.data.now (no_tray_word c.in-TrayOf.q c.args.word c.in_default-word-5.not-TrayWord))
