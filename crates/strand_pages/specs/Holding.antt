-- The pages of a log as a table.
use Rattle.strand_pages.specs.Tables.{PageTable}
use Rattle.strand_pages.specs.declared.table.Pages.TheInside.{Inside}

abbrev pub page_table_of : Inside → PageTable
page_table_of x = record { directory = x.directory.items; pages = x.pages.items; used = x.used }
