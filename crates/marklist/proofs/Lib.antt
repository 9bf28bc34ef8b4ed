mod TextLines
