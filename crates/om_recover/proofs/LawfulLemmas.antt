use Rattle.std.proofs.Common.{ℕ}
use Rattle.om_recover.specs.Rows.{Rows, HasRow, IsLawful}
use Rattle.om_recover.specs.declared.row.Row.{Row}

-- records of a cluster that are among lawful ones are lawful
pub lawful_part : (n : ℕ) (part rows : Rows) → ((row : Row) → HasRow part row → HasRow rows row) → IsLawful n rows → IsLawful n part
lawful_part n part rows among lawful = record {
  known = λ row there. lawful.known row (among row there);
  numbered = λ row there. lawful.numbered row (among row there);
  fair = λ row there. lawful.fair row (among row there);
  agree = λ one other there there_too. lawful.agree one other (among one there) (among other there_too);
  rise = λ low high there there_too. lawful.rise low high (among low there) (among high there_too);
}
