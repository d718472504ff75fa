-- The Link group: records appended to the stream. Assumes nothing.
use Prim.Native.Nat.{ℕ, ◌+◌, ◌≤◌}
use mathlib.Core.Path.{◌≡◌, refl, sym, ap, ◌∙◌}
use mathlib.Core.Bool.{Bool, false}
use mathlib.Core.List.{List, [], ◌∷◌, ◌++◌, append_assoc, append-nil}
use lib.ListN.{length, take, drop, length-append}
use lib.Seq.{length-take-le, take_at}
use Rattle.lists.specs.Part.{put}
use Rattle.records.specs.Message.{Message, encode_all, Fits}
use Rattle.records.specs.Message as message
use Rattle.records.proofs.KindLaws.{for-page, for-block, for-state}
use Rattle.records.proofs.MessageLaws.{encode_all-append}
use Rattle.pages.specs.DirtyMessages.{AllFit}
use Rattle.runs.proofs.Effects.{Epoch, sent, All, all_append, Before, AllBefore, Readable}
use Rattle.runs.proofs.Invariant.{Link}

-- ---- the records sent, with more of the open epoch, and with it closed
pub sent-more : (ahead : List Epoch) (opened ms : List Message) → sent ahead (opened ++ ms) ≡ sent ahead opened ++ ms
sent-more [] opened ms = refl
sent-more (x ∷ xs) opened ms =
    let c = message.commit x.number x.pages x.blocks in
    ap (λ (l : List Message). x.records ++ (c ∷ l)) (sent-more xs opened ms) ∙ sym (append_assoc x.records (c ∷ sent xs opened) ms)

pub sent-closed : (ahead : List Epoch) (opened ms : List Message) (x : Epoch) → x.records ≡ opened ++ ms
    → sent (ahead ++ (x ∷ [])) [] ≡ sent ahead opened ++ (ms ++ (message.commit x.number x.pages x.blocks ∷ []))
sent-closed [] opened ms x e =
    let c = message.commit x.number x.pages x.blocks in
    ap (λ (l : List Message). l ++ (c ∷ [])) e ∙ append_assoc opened ms (c ∷ [])
sent-closed (y ∷ ys) opened ms x e =
    let c = message.commit y.number y.pages y.blocks in
    ap (λ (l : List Message). y.records ++ (c ∷ l)) (sent-closed ys opened ms x e) ∙ sym (append_assoc y.records (c ∷ sent ys opened) _)

pub before_more : (ahead : List Epoch) (x : Epoch) → AllBefore ahead → All Before x.records → AllBefore (ahead ++ (x ∷ []))
before_more [] x f g = (g, tt)
before_more (y ∷ ys) x f g = (f.0, before_more ys x f.1 g)

-- records before a COMMIT that fit their fields are readable
pub readable-before : (u : ℕ) (wide : Bool) (m : Message) → Fits u wide m → Before m → Readable u wide m
readable-before u wide (message.page e p bs) f b = (f, for-page wide)
readable-before u wide (message.block e n bs) f b = (f, for-block wide)
readable-before u wide (message.state e bs) f b = (f, for-state wide)
readable-before u wide (message.commit e p n) f b = absurd b
readable-before u wide (message.ack e) f b = absurd b

pub all-readable : (u : ℕ) (wide : Bool) (ms : List Message) → AllFit u wide ms → All Before ms → All (Readable u wide) ms
all-readable u wide [] f b = tt
all-readable u wide (m ∷ ms) f b = (readable-before u wide m f.0 b.0, all-readable u wide ms f.1 b.1)

-- ---- bytes put behind those waiting
pub take-put-end : (s : List ℕ) (at : ℕ) (bs : List ℕ) → at ≤ length s → take (at + length bs) (put s at bs) ≡ take at s ++ bs
unfolding put
take-put-end s at bs h =
    take_at (take at s ++ bs) (drop (at + length bs) s) (at + length bs) (length-append (take at s) bs ∙ ap (λ (n : ℕ). n + length bs) (length-take-le at s h))

-- ---- the bytes under way, waiting and lost: some of those waiting moved to the link
pub bytes-moved : (link out link' out' lost : List ℕ) → link' ++ out' ≡ link ++ out → link' ++ (out' ++ lost) ≡ link ++ (out ++ lost)
bytes-moved link out link' out' lost same = sym (append_assoc link' out' lost) ∙ ap (λ (l : List ℕ). l ++ lost) same ∙ append_assoc link out lost

-- with those of more records behind the ones waiting
pub bytes-append : (wide : Bool) (link out lost : List ℕ) (pending ms : List Message) → lost ≡ [] → link ++ (out ++ lost) ≡ encode_all wide pending
    → link ++ ((out ++ encode_all wide ms) ++ lost) ≡ encode_all wide (pending ++ ms)
bytes-append wide link out lost pending ms none bytes =
    ap (λ (l : List ℕ). link ++ ((out ++ encode_all wide ms) ++ l)) none
    ∙ ap (λ (l : List ℕ). link ++ l) (append-nil (out ++ encode_all wide ms))
    ∙ sym (append_assoc link out (encode_all wide ms))
    ∙ ap (λ (l : List ℕ). (link ++ l) ++ encode_all wide ms) (sym (append-nil out) ∙ ap (λ (l : List ℕ). out ++ l) (sym none))
    ∙ ap (λ (l : List ℕ). l ++ encode_all wide ms) bytes
    ∙ sym (encode_all-append wide pending ms)

module _ (u : ℕ) (wide : Bool) (ahead ahead' : List Epoch) (opened opened' consumed pending : List Message) (link stream lost : List ℕ) (waiting : ℕ) (ms : List Message) where
  pub link-append : (alone : Bool) → alone ≡ false → sent ahead opened ++ ms ≡ sent ahead' opened' → AllBefore ahead' → All Before opened' → All (Readable u wide) ms
      → waiting ≤ length stream → Link u wide ahead opened consumed pending link stream lost waiting alone
      → Link u wide ahead' opened' consumed (pending ++ ms) link (put stream waiting (encode_all wide ms)) lost (waiting + length (encode_all wide ms)) alone
  link-append alone on e ba bo f h k =
      record {
        records = sym (append_assoc consumed pending ms) ∙ ap (λ (l : List Message). l ++ ms) k.records ∙ e;
        bytes =
            ap (λ (l : List ℕ). link ++ (l ++ lost)) (take-put-end stream waiting (encode_all wide ms) h)
            ∙ bytes-append wide link (take waiting stream) lost pending ms (k.lossless on) k.bytes;
        lossless = k.lossless;
        readable = all_append (Readable u wide) pending ms k.readable f;
        consumed_before = k.consumed_before;
        ahead_before = ba;
        opened_before = bo;
      }
