use Rattle.std.proofs.Common.{◌≡◌, ℕ, List, ◌+◌, ◌-◌, ◌≤◌, ◌++◌, length, take, drop, ap₂, ◌∙◌, arith}
use Rattle.std.proofs.lemmas.Slice.{take-put_mid}
use Rattle.std.proofs.lemmas.List.{length-append, length-drop, length-take, length-take-le}
use borrow.Rule.Slice.PartMut.{put_mid}
use Rattle.board_mem.specs.Memory.{bytes_at}
use Rattle.board_mem.proofs.Splices.{bytes_at-append}
use Rattle.board_mem.proofs.pages.Pages.get_across.Goals as goal

-- a write to a part keeps the length
length-put_mid : (a k : ℕ) (xs ys : List ℕ) → a + k ≤ length xs → length ys ≡ k → length (put_mid a k xs ys) ≡ length xs
length-put_mid a k xs ys le n =
    omega (arith, length-append (take a xs) (ys ++ drop k (drop a xs)), length-append ys (drop k (drop a xs)), length-take-le a xs (omega arith), length-drop k (drop a xs), length-drop a xs)

pub loop-done-preserved : goal.loop-done-preserved
loop-done-preserved c =
    let done = c.loop-done.done in
    let count = c.min-count.result in
    let dst : List ℕ = c.loop-done.dst in
    let bytes = c.args.self.now.bytes in
    let piece : List ℕ = c.copy_from_slice.new.self in
    let span : done + count - done ≡ count = omega arith in
    let size : length piece ≡ done + count - done = omega (arith, c.copy_from_slice.ensures.len, length-take (done + count - done) (drop done dst), length-drop done dst) in
    let kept : length (put_mid done (done + count - done) dst piece) ≡ length dst = length-put_mid done (done + count - done) dst piece (omega arith) size in
    let copied : piece ≡ bytes_at bytes (c.args.at + done) count = c.copy_from_slice.ensures.after ∙ c.piece.ensures in
    let prefix = take-put_mid done (done + count - done) dst piece (done + count) (omega (arith, size)) c.loop-done.invariant.0 in
    (omega (arith, kept), kept ∙ c.loop-done.invariant.1, prefix ∙ ap₂ (λ xs ys. xs ++ ys) c.loop-done.invariant.2 copied ∙ bytes_at-append bytes c.args.at done count)
