use Rattle.std.proofs.Common.{◌≡◌, ℕ, ◌+◌, ◌∙◌, refl, sym, ap, rules, arith, length, replicate}
use Rattle.std.proofs.lemmas.List.{length-replicate}
use Rattle.std.proofs.lemmas.Slice.{put_mid-paste}
use Rattle.lists.proofs.PartLaws.{put-paste}
use Rattle.text.specs.Line.{space}
use Rattle.text.proofs.printing.put_spaces.Goals as goal

pub returns-clause-put_done : goal.returns-clause-put_done
returns-clause-put_done c =
    let a = c.args in
    let spaces = replicate a.n space in
    let long : length spaces ≡ a.n = length-replicate a.n space in
    let filled : c.fill.new.self ≡ spaces = search rules in
    record {
      bytes = put_mid-paste a.at _ a.out.now c.fill.new.self spaces (length spaces) filled (omega (arith, long)) refl ∙ put-paste a.out.now a.at spaces;
      position = ap (λ (k : ℕ). a.at + k) (sym long);
    }
